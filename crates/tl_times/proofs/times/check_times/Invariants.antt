use Rattle.tl_times.proofs.Lines.{SoFar}
use Rattle.tl_times.proofs.times.check_times.Given as goal

abbrev pub invariant-loop-beat : goal.invariant-loop-beat
invariant-loop-beat l = SoFar l.text l.beats l.beat l.at l.last
