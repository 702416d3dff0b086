-- The byte on a lane of a beat.
use Rattle.tl_burst.proofs.Names.{◌≡◌, ◌≤◌, ◌<◌, ◌+◌, ◌-◌, ◌*◌, ◌/◌, ◌%◌, ◌^◌, ◌≢◌, ◌⊎◌, ℕ, Some, None, sym, ap, ◌∙◌, arith, inl, inr, ⊎_elim}
use Rattle.tl_burst.proofs.Names.{mod-add-div, mod-lt, digits_div, Rules, IsWidth, lane_of, lanes_differ, lane_cases, lane-shift, Message, byte_on}
use Rattle.tl_burst.proofs.Names.{per_beat}
use Rattle.tl_burst.proofs.Places.{byte_on-some, byte_on-none, per-pos, per-le}

module _ {H : Type 0} (r : Rules H) (m : Message H) (v : ℕ) (vw : IsWidth v) where
  -- bytes of one beat are on different lanes
  pub apart-lanes : (j i i' : ℕ) → j * per_beat r m.head v ≤ i → i < i' → i' < j * per_beat r m.head v + per_beat r m.head v →
      lane_of m.home i v ≢ lane_of m.home i' v
  apart-lanes j i i' lo lt hi = let le : per_beat r m.head v ≤ v = per-le r m v vw in lanes_differ m.home i i' v vw lt (omega arith)

  -- the byte on a lane, or none
  pub on_lane : (j : ℕ) → j * per_beat r m.head v + per_beat r m.head v ≤ 2 ^ r.size m.head → (l : ℕ) →
      ((i : ℕ) × (j * per_beat r m.head v ≤ i) × (i < j * per_beat r m.head v + per_beat r m.head v) × (lane_of m.home i v ≡ l) ×
      (byte_on r m v j l ≡ Some i))
      ⊎ (((i : ℕ) → j * per_beat r m.head v ≤ i → i < j * per_beat r m.head v + per_beat r m.head v → lane_of m.home i v ≢ l) ×
      (byte_on r m v j l ≡ None))
  on_lane j room l =
      let p : ℕ = per_beat r m.head v in
      let pp : 0 < per_beat r m.head v = per-pos r m v vw in
      ⊎_elim
      (λ (k, below, e).
      let there : lane_of m.home (j * per_beat r m.head v + k) v ≡ l = sym (lane-shift m.home (j * per_beat r m.head v) k v vw) ∙ e in
      let inside : j * per_beat r m.head v + k < 2 ^ r.size m.head = omega arith in
      let place : (j * per_beat r m.head v + k) / per_beat r m.head v ≡ j = digits_div j below in
      inl (j * per_beat r m.head v + k, omega arith, omega arith, there, byte_on-some r m v vw (j * per_beat r m.head v + k) j l inside place there))
      (λ never.
      let none_of : (i : ℕ) → j * per_beat r m.head v ≤ i → i < j * per_beat r m.head v + per_beat r m.head v → lane_of m.home i v ≢ l =
      λ i lo hi e.
      let s : j * per_beat r m.head v + (i - j * per_beat r m.head v) ≡ i = omega arith in
      never (i - j * per_beat r m.head v) (omega arith)
      (lane-shift m.home (j * per_beat r m.head v) (i - j * per_beat r m.head v) v vw ∙ ap (λ x. lane_of m.home x v) s ∙ e) in
      inr (
        none_of,
        byte_on-none r m v vw j l (λ i inside place e.
            let parts : i % per_beat r m.head v + per_beat r m.head v * (i / per_beat r m.head v) ≡ i = mod-add-div i (per_beat r m.head v) in
            let sum : i % per_beat r m.head v + per_beat r m.head v * j ≡ i = rw place at parts in
            let below : i % per_beat r m.head v < per_beat r m.head v = mod-lt i pp in
            let turn : per_beat r m.head v * j ≡ j * per_beat r m.head v = grind arith in
            none_of i (omega arith) (omega arith) e),
      ))
      (lane_cases ((m.home + j * per_beat r m.head v) % 2 ^ 64) v (per_beat r m.head v) l)
