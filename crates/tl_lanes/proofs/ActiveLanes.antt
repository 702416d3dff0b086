-- The active lanes of a beat, as a relation and as runs of lanes.
use Rattle.std.proofs.Common.{◌≡◌, ◌≤◌, ◌<◌, ◌+◌, ◌-◌, ◌^◌, ◌≢◌, ◌==◌, ◌↔◌, ℕ, Bool, true, false, cond, length, get_or, refl, sym, ap, ◌∙◌, arith}
use Rattle.std.proofs.Common.{eq-eqb, ⊎_elim, bit_or}
use Rattle.std.specs.Int.{bit_at}
use Rattle.std.specs.List.{Any, range_with_len}
use Rattle.std.proofs.lemmas.Bool.{eqb-true, cases_lt}
use Rattle.std.proofs.lemmas.List.Folds.{Any-from_list_any, list_any_at}
use Rattle.std.proofs.lemmas.List.FromFn.{length-range_with_len, get_or-range_with_len}
use Rattle.std.proofs.Math.Pow.{pow_mono}
use Rattle.std.proofs.lemmas.Nat.{pow_pos}
use Rattle.std.proofs.lemmas.Nat.Bits.{bit_at_above}
use Rattle.tl_lanes.specs.Lanes.{IsWidth, bytes_per_beat, lane_of, is_active, mask_of, active_mask}
use Rattle.tl_lanes.proofs.Masks.{bit_at-mask_of, mask_of-lt, mask_of-none, mask_of-all, runs_apart}
use Rattle.tl_lanes.proofs.Widths.{lane-lt, lane-before_end, lane-after_end}

-- lane l is active: it is the lane of one of the first bytes that fill a beat
abbrev pub IsActive : (address size w l : ℕ) → Type 0
IsActive address size w l = (i : ℕ) × (i < bytes_per_beat size w) × (lane_of address i w ≡ l)

pub is_active-from_lane : (a z w l i : ℕ) → i < bytes_per_beat z w → lane_of a i w ≡ l → is_active a z w l ≡ true
is_active-from_lane a z w l i lt e =
    let byte : get_or (range_with_len 0 (bytes_per_beat z w)) i 0 ≡ 0 + i = get_or-range_with_len 0 (bytes_per_beat z w) i 0 lt in
    let here : get_or (range_with_len 0 (bytes_per_beat z w)) i 0 ≡ i = omega arith in
    let inside : i < length (range_with_len 0 (bytes_per_beat z w)) = omega (arith, length-range_with_len 0 (bytes_per_beat z w)) in
    let test : (lane_of a i w == l) ≡ true = eq-eqb (lane_of a i w) l e in
    list_any_at (λ j. lane_of a j w == l) (range_with_len 0 (bytes_per_beat z w)) i 0 inside (ap (λ j. lane_of a j w == l) here ∙ test)

lane-from_any : (a z w l : ℕ) → Any (λ i. (lane_of a i w == l) ≡ true) (range_with_len 0 (bytes_per_beat z w)) → IsActive a z w l
lane-from_any a z w l (k, i, lt, at, test) =
    let below : k < bytes_per_beat z w = omega (arith, length-range_with_len 0 (bytes_per_beat z w)) in
    let byte : get_or (range_with_len 0 (bytes_per_beat z w)) k i ≡ 0 + k = get_or-range_with_len 0 (bytes_per_beat z w) k i below in
    (i, omega arith, eqb-true (lane_of a i w) l test)

pub lane-from_is_active : (a z w l : ℕ) → is_active a z w l ≡ true → IsActive a z w l
lane-from_is_active a z w l e =
    lane-from_any a z w l (Any-from_list_any (λ i. lane_of a i w == l) (range_with_len 0 (bytes_per_beat z w)) e)

not_true : (b : Bool) → (b ≡ true → ⊥) → b ≡ false
not_true true never = absurd (never refl)
not_true false never = refl

pub is_active-false : (a z w l : ℕ) → ((i : ℕ) → i < bytes_per_beat z w → lane_of a i w ≢ l) → is_active a z w l ≡ false
is_active-false a z w l none =
    not_true (is_active a z w l) (λ e. let s : IsActive a z w l = lane-from_is_active a z w l e in none s.0 s.1 s.2)

-- the mask of the active lanes has no bit outside the bus
pub active_mask-lt : (a z w : ℕ) → active_mask a z w < 2 ^ w
active_mask-lt a z w = mask_of-lt (is_active a z w) w

digit-true : (b : Bool) → ◌≡◌ {A = ℕ} (cond b 1 0) 1 → b ≡ true
digit-true true e = refl
digit-true false e = absurd (omega arith)

-- its bits are the active lanes
pub bit_at-active_mask : (a z w l : ℕ) → IsWidth w → (bit_at (active_mask a z w) l ≡ 1) ↔ IsActive a z w l
bit_at-active_mask a z w l h =
    ⊎_elim
    (λ lt. let bit : bit_at (active_mask a z w) l ≡ cond (is_active a z w l) 1 0 = bit_at-mask_of (is_active a z w) w l lt in (
      λ e. lane-from_is_active a z w l (digit-true (is_active a z w l) (sym bit ∙ e)),
      λ (i, below, e). bit ∙ ap (λ b. cond b 1 0) (is_active-from_lane a z w l i below e),
    ))
    (λ ge. (
      λ e. absurd (omega (arith, bit_at_above (active_mask a z w) w l (active_mask-lt a z w) ge)),
      λ (i, below, e). absurd (omega (arith, lane-lt a i w h)),
    ))
    (cases_lt l w)

-- If byte 0 is on lane s, and the p bytes of a beat do not pass the end of the bus, the active lanes are one run.
pub active_mask-run : (a z w s p : ℕ) → IsWidth w → s ≡ lane_of a 0 w → p ≡ bytes_per_beat z w → s + p ≤ w →
    active_mask a z w ≡ 2 ^ (s + p) - 2 ^ s
active_mask-run a z w s p h first count fits =
    let below : mask_of (is_active a z w) s ≡ mask_of (is_active a z w) 0 =
    mask_of-none (is_active a z w) 0 s (omega arith) (λ l from lt. is_active-false a z w l
    (λ i few e. let plain : lane_of a i w ≡ s + i = lane-before_end a i w s h first (omega arith) in omega arith)) in
    let run : mask_of (is_active a z w) (s + p) + 2 ^ s ≡ mask_of (is_active a z w) s + 2 ^ (s + p) =
    mask_of-all (is_active a z w) s (s + p) (omega arith) (λ l from lt.
    let plain : lane_of a (l - s) w ≡ s + (l - s) = lane-before_end a (l - s) w s h first (omega arith) in
    is_active-from_lane a z w l (l - s) (omega arith) (omega arith)) in
    let above : mask_of (is_active a z w) w ≡ mask_of (is_active a z w) (s + p) =
    mask_of-none (is_active a z w) (s + p) w fits (λ l from lt. is_active-false a z w l
    (λ i few e. let plain : lane_of a i w ≡ s + i = lane-before_end a i w s h first (omega arith) in omega arith)) in
    omega arith

-- If they wrap around the end, the active lanes are a run up to the end and a run from lane 0 on.
pub active_mask-round : (a z w s p : ℕ) → IsWidth w → s ≡ lane_of a 0 w → p ≡ bytes_per_beat z w → w ≤ s + p →
    active_mask a z w ≡ 2 ^ w - 2 ^ s + (2 ^ (s + p - w) - 1)
active_mask-round a z w s p h first count long =
    let inside : lane_of a 0 w < w = lane-lt a 0 w h in
    let few : p ≤ w = omega arith in
    let low : mask_of (is_active a z w) (s + p - w) + 2 ^ 0 ≡ mask_of (is_active a z w) 0 + 2 ^ (s + p - w) =
    mask_of-all (is_active a z w) 0 (s + p - w) (omega arith) (λ l from lt.
    let round : lane_of a (l + w - s) w + w ≡ s + (l + w - s) = lane-after_end a (l + w - s) w s h first (omega arith) (omega arith) in
    is_active-from_lane a z w l (l + w - s) (omega arith) (omega arith)) in
    let between : mask_of (is_active a z w) s ≡ mask_of (is_active a z w) (s + p - w) =
    mask_of-none (is_active a z w) (s + p - w) s (omega arith) (λ l from lt. is_active-false a z w l
    (λ i below e. ⊎_elim
    (λ near. let plain : lane_of a i w ≡ s + i = lane-before_end a i w s h first near in omega arith)
    (λ far. let round : lane_of a i w + w ≡ s + i = lane-after_end a i w s h first far (omega arith) in omega arith)
    (cases_lt (s + i) w))) in
    let high : mask_of (is_active a z w) w + 2 ^ s ≡ mask_of (is_active a z w) s + 2 ^ w =
    mask_of-all (is_active a z w) s w (omega arith) (λ l from lt.
    let plain : lane_of a (l - s) w ≡ s + (l - s) = lane-before_end a (l - s) w s h first (omega arith) in
    is_active-from_lane a z w l (l - s) (omega arith) (omega arith)) in
    let s_w : s ≤ w = omega arith in
    let powers : 2 ^ s ≤ 2 ^ w = pow_mono s_w in
    let one : 0 < 2 ^ (s + p - w) = pow_pos (s + p - w) in
    omega arith

pub active_mask-two_runs : (a z w s p x y : ℕ) → IsWidth w → s ≡ lane_of a 0 w → p ≡ bytes_per_beat z w → w ≤ s + p →
    x ≡ 2 ^ (s + (w - s)) - 2 ^ s → y ≡ 2 ^ (s + p - w) - 1 → bit_or x y ≡ active_mask a z w
active_mask-two_runs a z w s p x y h first count long x_is y_is =
    let inside : lane_of a 0 w < w = lane-lt a 0 w h in
    let end : s + (w - s) ≡ w = omega arith in
    let few : s + p - w ≤ s = omega arith in
    ap (λ n. bit_or n y) (x_is ∙ ap (λ n. 2 ^ n - 2 ^ s) end)
    ∙ ap (bit_or (2 ^ w - 2 ^ s)) y_is
    ∙ runs_apart s w (s + p - w) few
    ∙ sym (active_mask-round a z w s p h first count long)
