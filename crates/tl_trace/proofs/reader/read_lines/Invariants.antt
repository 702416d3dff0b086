use Rattle.tl_trace.proofs.Names.{length, ◌-◌}
use Rattle.tl_trace.proofs.ReadLines.{SoFar}
use Rattle.tl_trace.proofs.reader.read_lines.Given as goal

abbrev pub invariant-loop-at : goal.invariant-loop-at
invariant-loop-at l = SoFar l.text l.start l.header.version l.header.client l.header.manager l.lines.items l.at l.before

abbrev pub decreases-loop-at : goal.decreases-loop-at
decreases-loop-at l = length l.initial.text - l.at
