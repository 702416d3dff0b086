use Rattle.tl_lanes.proofs.LaneMoves.{Moved}
use Rattle.tl_lanes.proofs.moves.move_each.Given as goal

abbrev pub invariant-loop-k : goal.invariant-loop-k
invariant-loop-k g l = Moved l.from l.to l.initial.to l.at g.row.W g.row.V l.k
