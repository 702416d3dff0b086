use Rattle.tl_trace.proofs.HexText.{LanesSoFar}
use Rattle.tl_trace.proofs.text.write_lanes.Given as goal

abbrev pub invariant-loop-i : goal.invariant-loop-i
invariant-loop-i l = LanesSoFar l.lanes l.w l.digits l.i
