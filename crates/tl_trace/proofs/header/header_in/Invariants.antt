use Rattle.tl_trace.proofs.Headers.{IsPassed}
use Rattle.tl_trace.proofs.header.header_in.Given as goal

abbrev pub invariant-loop-i : goal.invariant-loop-i
invariant-loop-i l = IsPassed l.text l.version l.i
