use Rattle.tl_check.proofs.Names.{◌+◌, ◌-◌, ℕ, List, length, rules_a, HeadA, HeadD, BeatOf, AreAt, HasCome, IsWithin, IsPart}
use Rattle.tl_check.proofs.coupled.offer_requests.Given as goal

abbrev pub invariant-beats : goal.invariant-beats
invariant-beats g l = record {
  within : IsWithin l.discarded l.asks.at l.asks.far (length l.beats);
  come : (a : List (BeatOf HeadA g.row.C)) → IsPart l.discarded l.beats a →
      HasCome rules_a g.row.M a l.fn.asks.tracker l.fn.asks.at l.fn.asks.far →
      HasCome rules_a g.row.M a l.asks.tracker l.asks.at l.asks.far;
  accepted : (a : List (BeatOf HeadA g.row.C)) (d : List (BeatOf HeadD g.row.M)) (j : ℕ) → IsPart l.discarded l.beats a →
      HasCome rules_a g.row.M a l.fn.asks.tracker l.fn.asks.at l.fn.asks.far →
      AreAt a d l.fn.asks.at j l.fn.client l.fn.manager → AreAt a d l.asks.at j l.client l.manager;
}

abbrev pub decreases-beats : goal.decreases-beats
decreases-beats g l = l.discarded + length l.beats - l.asks.at
