use Rattle.std.proofs.Common.{length, ◌+◌, ◌-◌}
use Rattle.tl_times.proofs.Lines.{IsCounted}
use Rattle.tl_times.proofs.times.beats_of.Given as goal

abbrev pub invariant-loop-at : goal.invariant-loop-at
invariant-loop-at l = IsCounted l.trace l.at l.lines

abbrev pub decreases-loop-at : goal.decreases-loop-at
decreases-loop-at l = length l.initial.trace + 1 - l.at
