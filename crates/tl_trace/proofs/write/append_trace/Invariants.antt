use Rattle.tl_trace.proofs.TraceLines.{IsWritten}
use Rattle.tl_trace.proofs.write.append_trace.Given as goal

abbrev pub invariant-loop-line : goal.invariant-loop-line
invariant-loop-line l = IsWritten l.trace.version l.trace.client l.trace.manager l.trace.lines.items l.out.items l.line-index
