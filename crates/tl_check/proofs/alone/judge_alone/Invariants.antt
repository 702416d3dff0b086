use Rattle.tl_check.proofs.Names.{◌+◌, ◌-◌, List, length, HasCome, IsWithin, IsPart}
use Rattle.tl_check.proofs.alone.judge_alone.Given as goal

abbrev pub invariant-beats : goal.invariant-beats
invariant-beats g l = record {
  within : IsWithin l.discarded l.progress.at l.progress.far (length l.beats);
  come : (bs : List _) → IsPart l.discarded l.beats bs →
      HasCome g.K.Channel.rules l.far_width bs l.fn.progress.tracker l.fn.progress.at l.fn.progress.far →
      HasCome g.K.Channel.rules l.far_width bs l.progress.tracker l.progress.at l.progress.far;
}

abbrev pub decreases-beats : goal.decreases-beats
decreases-beats g l = l.discarded + length l.beats - l.progress.at
