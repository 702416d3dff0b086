use Rattle.tl_trace.proofs.ReadDigits.{Pairs}
use Rattle.tl_trace.proofs.digits.number_by_pairs.Given as goal

abbrev pub invariant-loop-i : goal.invariant-loop-i
invariant-loop-i l = Pairs l.digits l.i l.value l.pairs
