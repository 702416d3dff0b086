-- Lanes that are copied from one bus to another.
use Rattle.std.proofs.Common.{◌≡◌, ◌<◌, ◌+◌, ◌≢◌, ℕ, List, length, get_or, slice_set, arith, sym, ◌∙◌, get_or-set_same, get_or-set_other, below_more}
use Rattle.std.proofs.Common.{length-set}
use Rattle.tl_lanes.specs.Lanes.{lane_of, IsWidth}
use Rattle.tl_lanes.proofs.Widths.{lane-lt, lanes_differ}

-- the state after the first k copies
pub record Moved (from to old : List ℕ) (at w v k : ℕ) : Type 0 where
  pub size : length to ≡ v
  pub moved : (j : ℕ) → j < k → get_or to (lane_of at j v) 0 ≡ get_or from (lane_of at j w) 0
  pub kept : (x : ℕ) → ((j : ℕ) → j < k → lane_of at j v ≢ x) → get_or to x 0 ≡ get_or old x 0

-- one copy more
pub Moved-more : (from to old : List ℕ) (at w v k p q : ℕ) → IsWidth v → k < v → p ≡ lane_of at k v → q ≡ lane_of at k w →
    Moved from to old at w v k → Moved from (slice_set to p (get_or from q 0)) old at w v (k + 1)
Moved-more from to old at w v k p q width near ep eq m = record {
  size = length-set to p (get_or from q 0) ∙ m.size;
  moved = below_more _ _
      (λ j lt.
      let ne : lane_of at j v ≢ p = λ e. lanes_differ at j k v width lt (omega arith) (e ∙ ep) in
      get_or-set_other to _ _ _ 0 ne ∙ m.moved j lt)
      (let inside : p < length to = omega (arith, lane-lt at k v width, m.size, ep) in
      rw (← ep) (rw (← eq) (rw get_or-set_same)));
  kept = λ x outside.
      let ne : x ≢ p = λ e. outside k (omega arith) (sym (e ∙ ep)) in
      get_or-set_other to _ _ _ 0 ne ∙ m.kept x (λ j lt. outside j (omega arith));
}
