use Rattle.tl_check.proofs.Names.{◌+◌, ◌-◌, ◌≤◌, ℕ, List, length, rules_d, HeadA, HeadD, BeatOf, AreAt, HasCome, IsWithin, IsPart}
use Rattle.tl_check.proofs.coupled.offer_responses.Given as goal

abbrev pub invariant-beats : goal.invariant-beats
invariant-beats g l = record {
  within : IsWithin l.discarded l.answers.at l.answers.far (length l.beats);
  on : l.fn.answers.at ≤ l.answers.at;
  come : (d : List (BeatOf HeadD g.row.M)) → IsPart l.discarded l.beats d →
      HasCome rules_d g.row.C d l.fn.answers.tracker l.fn.answers.at l.fn.answers.far →
      HasCome rules_d g.row.C d l.answers.tracker l.answers.at l.answers.far;
  accepted : (a : List (BeatOf HeadA g.row.C)) (d : List (BeatOf HeadD g.row.M)) (i : ℕ) → IsPart l.discarded l.beats d →
      HasCome rules_d g.row.C d l.fn.answers.tracker l.fn.answers.at l.fn.answers.far →
      AreAt a d i l.fn.answers.at l.fn.client l.fn.manager → AreAt a d i l.answers.at l.client l.manager;
}

abbrev pub decreases-beats : goal.decreases-beats
decreases-beats g l = l.discarded + length l.beats - l.answers.at
