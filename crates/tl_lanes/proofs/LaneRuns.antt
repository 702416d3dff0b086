-- Runs of lanes that do not go round the end of the bus.
use Rattle.std.proofs.Common.{◌≡◌, ◌≤◌, ◌<◌, ◌+◌, ◌-◌, ◌≢◌, ◌⊎◌, ℕ, inl, inr, arith, sym, ap, ◌∙◌, ⊎_elim}
use Rattle.std.proofs.lemmas.Bool.{cases_lt}
use Rattle.tl_lanes.specs.Lanes.{lane_of, IsWidth}
use Rattle.tl_lanes.proofs.Widths.{lane-before_end}

-- a relation that holds for each lane of a run holds for the lane of each byte: g reads the far bus, h the near one
pub run-moved : (g h : ℕ → ℕ) (at w v count near far : ℕ) → IsWidth w → IsWidth v → near ≡ lane_of at 0 w → far ≡ lane_of at 0 v →
    near + count ≤ w → far + count ≤ v → ((k : ℕ) → k < count → g (far + k) ≡ h (near + k)) →
    (k : ℕ) → k < count → g (lane_of at k v) ≡ h (lane_of at k w)
run-moved g h at w v count near far width_w width_v near_is far_is near_fits far_fits moved k lt =
    ap g (lane-before_end at k v far width_v far_is (omega arith)) ∙ moved k lt ∙
    ap h (sym (lane-before_end at k w near width_w near_is (omega arith)))

-- a lane without a byte of the run is before the run or after it
pub lane-outside : (at v count far l : ℕ) → IsWidth v → far ≡ lane_of at 0 v → far + count ≤ v →
    ((k : ℕ) → k < count → lane_of at k v ≢ l) → (l < far) ⊎ (far + count ≤ l)
lane-outside at v count far l width is fits none =
    ⊎_elim (λ before. inl before)
    (λ from. ⊎_elim
    (λ below. absurd (none (l - far) (omega arith)
    (let here : lane_of at (l - far) v ≡ far + (l - far) = lane-before_end at (l - far) v far width is (omega arith) in omega arith)))
    (λ after. inr after)
    (cases_lt l (far + count)))
    (cases_lt l far)
