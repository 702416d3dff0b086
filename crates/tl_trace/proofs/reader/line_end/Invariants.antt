use Rattle.tl_trace.proofs.Names.{length, ◌-◌}
use Rattle.tl_trace.proofs.LineEnds.{IsFreeTo}
use Rattle.tl_trace.proofs.reader.line_end.Given as goal

abbrev pub invariant-loop-end : goal.invariant-loop-end
invariant-loop-end l = IsFreeTo l.text l.at l.end

abbrev pub decreases-loop-end : goal.decreases-loop-end
decreases-loop-end l = length l.text - l.end
