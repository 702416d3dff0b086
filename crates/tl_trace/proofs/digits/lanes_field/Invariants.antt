use Rattle.tl_trace.proofs.ReadDigits.{Lanes}
use Rattle.tl_trace.proofs.digits.lanes_field.Given as goal

abbrev pub invariant-loop-i : goal.invariant-loop-i
invariant-loop-i g l = Lanes l.text l.lanes g.row.N l.at l.w l.i l.pairs
