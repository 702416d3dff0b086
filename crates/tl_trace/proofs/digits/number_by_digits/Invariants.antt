use Rattle.tl_trace.proofs.ReadDigits.{SpeltSoFar}
use Rattle.tl_trace.proofs.digits.number_by_digits.Given as goal

abbrev pub invariant-loop-byte : goal.invariant-loop-byte
invariant-loop-byte l = SpeltSoFar l.digits l.byte-index l.value l.bad
