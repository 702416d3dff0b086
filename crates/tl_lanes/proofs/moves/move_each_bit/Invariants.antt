use Rattle.tl_lanes.proofs.MaskMoves.{BitsMoved}
use Rattle.tl_lanes.proofs.moves.move_each_bit.Given as goal

abbrev pub invariant-loop-k : goal.invariant-loop-k
invariant-loop-k l = BitsMoved l.from l.mask l.to l.at l.w l.v l.k
