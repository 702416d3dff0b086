use Rattle.std.proofs.Common.{arith}
use Rattle.tl_lanes.proofs.LaneMoves.{Moved-more}
use Rattle.tl_lanes.proofs.moves.move_each.Goals as goal

pub loop-k-preserved : goal.loop-k-preserved
loop-k-preserved g c =
    Moved-more c.args.from.now c.loop-k.to c.args.to.now c.args.at g.row.W g.row.V c.loop-k.k c.lane-in-loop-k.result c.lane.result
    c.requires.far (omega arith) c.lane-in-loop-k.ensures c.lane.ensures c.loop-k.invariant
