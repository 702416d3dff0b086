use Rattle.tl_trace.proofs.Names.{◌*◌}
use Rattle.tl_trace.proofs.HexText.{HexSoFar}
use Rattle.tl_trace.proofs.text.write_digits.Given as goal

abbrev pub invariant-loop-i : goal.invariant-loop-i
invariant-loop-i l = HexSoFar l.count l.fn.value l.digits l.rest (2 * l.i)
