-- Mask bits that are copied from one bus to another.
use Rattle.std.proofs.Common.{◌≡◌, ◌≤◌, ◌<◌, ◌+◌, ◌-◌, ◌*◌, ◌/◌, ◌%◌, ◌^◌, ◌≢◌, ◌⊎◌, ℕ, min, max, arith, sym, ap, ◌∙◌, ⊎_elim, bit_or, bit_and}
use Rattle.std.proofs.Common.{below_more}
use Rattle.std.specs.Int.{bit_at, bit_not}
use Rattle.std.proofs.Math.Pow.{pow_mono}
use Rattle.std.proofs.lemmas.Bool.{cases_lt}
use Rattle.std.proofs.lemmas.Nat.{and_le_l, and_le_r, or_lt, pow_pos, shl_below, shl_whole, shr-shr}
use Rattle.std.proofs.lemmas.Nat.Bits.{bit_at_set_same, bit_at_set_other, bit_at_clear_same, bit_at_clear_other, bit_at-lt, bit_at-zero, bit_at_above}
use Rattle.std.proofs.lemmas.Nat.Bits.{bit_at_and, bit_at_or, bit_at_not, bit_at_ones, bit_at_cat_low, bit_at_cat_high, bit_at_mask_inside}
use Rattle.std.proofs.lemmas.Nat.Bits.{bit_at_mask_below, bit_at_mask_above, shr_and_one}
use Rattle.tl_lanes.specs.declared.limits.TheConstants.{WIDEST}
use Rattle.tl_lanes.specs.Lanes.{lane_of, IsWidth}
use Rattle.tl_lanes.proofs.Masks.{mask_width}
use Rattle.tl_lanes.proofs.Widths.{lane-lt_widest, lanes_differ}

-- the state after the first k copied bits
pub record BitsMoved (from to old : ℕ) (at w v k : ℕ) : Type 0 where
  pub moved : (j : ℕ) → j < k → bit_at to (lane_of at j v) ≡ bit_at from (lane_of at j w)
  pub kept : (x : ℕ) → x < WIDEST → ((j : ℕ) → j < k → lane_of at j v ≢ x) → bit_at to x ≡ bit_at old x

more : (from to new old at w v k p q : ℕ) → IsWidth v → k < v → p ≡ lane_of at k v → q ≡ lane_of at k w →
    bit_at new p ≡ bit_at from q → ((x : ℕ) → x < WIDEST → x ≢ p → bit_at new x ≡ bit_at to x) →
    BitsMoved from to old at w v k → BitsMoved from new old at w v (k + 1)
more from to new old at w v k p q width near ep eq here others m = record {
  moved = below_more _ _
      (λ j lt.
      let ne : lane_of at j v ≢ p = λ e. lanes_differ at j k v width lt (omega arith) (e ∙ ep) in
      others (lane_of at j v) (lane-lt_widest at j v width) ne ∙ m.moved j lt)
      (rw (← ep, ← eq) here);
  kept = λ x inside outside.
      let ne : x ≢ p = λ e. outside k (omega arith) (sym (e ∙ ep)) in
      others x inside ne ∙ m.kept x inside (λ j lt. outside j (omega arith));
}

-- a bit that is 1 is set
pub BitsMoved-set : (from to old at w v k p q : ℕ) → IsWidth v → k < v → p ≡ lane_of at k v → q ≡ lane_of at k w →
    bit_and (from / 2 ^ q) 1 ≡ 1 → BitsMoved from to old at w v k → BitsMoved from (bit_or to (1 * 2 ^ p % 2 ^ WIDEST)) old at w v (k + 1)
BitsMoved-set from to old at w v k p q width near ep eq one m =
    let small : p < WIDEST = omega (arith, lane-lt_widest at k v width) in
    more from to (bit_or to (1 * 2 ^ p % 2 ^ WIDEST)) old at w v k p q width near ep eq
    (bit_at_set_same mask_width to p small ∙ sym (sym (shr_and_one from q) ∙ one))
    (λ x inside ne. bit_at_set_other mask_width to p small x ne) m

-- and any other is cleared
pub BitsMoved-clear : (from to old at w v k p q : ℕ) → IsWidth v → k < v → p ≡ lane_of at k v → q ≡ lane_of at k w →
    bit_and (from / 2 ^ q) 1 ≢ 1 → BitsMoved from to old at w v k → BitsMoved from (bit_and to (bit_not mask_width (1 * 2 ^ p % 2 ^ WIDEST))) old
    at w v (k + 1)
BitsMoved-clear from to old at w v k p q width near ep eq no_one m =
    let small : p < WIDEST = omega (arith, lane-lt_widest at k v width) in
    let bit : bit_and (from / 2 ^ q) 1 ≡ bit_at from q = shr_and_one from q in
    let two : bit_at from q < 2 = bit_at-lt from q in
    let zero_bit : bit_at from q ≡ 0 = omega arith in
    more from to (bit_and to (bit_not mask_width (1 * 2 ^ p % 2 ^ WIDEST))) old at w v k p q width near ep eq
    (bit_at_clear_same mask_width to p small ∙ sym zero_bit)
    (λ x inside ne. bit_at_clear_other mask_width to p small x inside ne) m

-- the bits of a run, at their new place
abbrev pub run_at : (from near far count : ℕ) → ℕ
run_at from near far count = bit_and (from / 2 ^ near) (2 ^ count - 1) * 2 ^ far % 2 ^ WIDEST

cut-lt : (x count : ℕ) → bit_and x (2 ^ count - 1) < 2 ^ count
cut-lt x count = omega (arith, and_le_r x (2 ^ count - 1), pow_pos count)

run_at-whole : (from near far count : ℕ) → far + count ≤ WIDEST → run_at from near far count ≡ bit_and (from / 2 ^ near) (2 ^ count - 1) * 2 ^ far + 0
run_at-whole from near far count room =
    let all : run_at from near far count ≡ bit_and (from / 2 ^ near) (2 ^ count - 1) * 2 ^ far =
    shl_whole (bit_and (from / 2 ^ near) (2 ^ count - 1)) count far WIDEST (cut-lt (from / 2 ^ near) count) (omega arith) in
    omega arith

bit_at-shr : (n a k : ℕ) → bit_at (n / 2 ^ a) k ≡ bit_at n (a + k)
bit_at-shr n a k = ap (λ x. x % 2) (shr-shr n a k)

pub run_at-inside : (from near far count k : ℕ) → far + count ≤ WIDEST → k < count → bit_at (run_at from near far count) (far + k) ≡
    bit_at from (near + k)
run_at-inside from near far count k room lt =
    let cut : bit_at (bit_and (from / 2 ^ near) (2 ^ count - 1)) k ≡ min (bit_at (from / 2 ^ near) k) (bit_at (2 ^ count - 1) k) =
    bit_at_and (from / 2 ^ near) (2 ^ count - 1) k in
    let ones : bit_at (2 ^ count - 1) k ≡ 1 = bit_at_ones count k lt in
    let two : bit_at (from / 2 ^ near) k < 2 = bit_at-lt (from / 2 ^ near) k in
    let there : bit_at (from / 2 ^ near) k ≡ bit_at from (near + k) = bit_at-shr from near k in
    let place : far + k - far ≡ k = omega arith in
    ap (λ x. bit_at x (far + k)) (run_at-whole from near far count room)
    ∙ bit_at_cat_high (bit_and (from / 2 ^ near) (2 ^ count - 1)) far 0 (far + k) (pow_pos far) (omega arith)
    ∙ ap (bit_at (bit_and (from / 2 ^ near) (2 ^ count - 1))) place
    ∙ omega arith

pub run_at-outside : (from near far count l : ℕ) → far + count ≤ WIDEST → (l < far) ⊎ (far + count ≤ l) → bit_at (run_at from near far count) l ≡ 0
run_at-outside from near far count l room outside =
    ⊎_elim
    (λ below. ap (λ x. bit_at x l) (run_at-whole from near far count room)
    ∙ bit_at_cat_low (bit_and (from / 2 ^ near) (2 ^ count - 1)) far 0 l below ∙ bit_at-zero l)
    (λ above.
    let small : bit_and (from / 2 ^ near) (2 ^ count - 1) * 2 ^ far < 2 ^ (count + far) = shl_below (bit_and (from / 2 ^ near) (2 ^ count - 1)) count
    far (cut-lt (from / 2 ^ near) count) in
    let e : run_at from near far count ≡ bit_and (from / 2 ^ near) (2 ^ count - 1) * 2 ^ far + 0 = run_at-whole from near far count room in
    bit_at_above (run_at from near far count) (count + far) l (omega arith) (omega arith))
    outside

-- a mask whose bits of a run are those of another one
abbrev pub with_run : (from near to far count : ℕ) → ℕ
with_run from near to far count = bit_or (bit_and to (bit_not mask_width (2 ^ (far + count) - 2 ^ far))) (run_at from near far count)

run-lt : (far count : ℕ) → far + count ≤ WIDEST → 2 ^ (far + count) - 2 ^ far < 2 ^ WIDEST
run-lt far count room = omega (arith, pow_mono room, pow_pos far)

with_run-bit : (from near to far count l : ℕ) → far + count ≤ WIDEST → l < WIDEST →
    bit_at (with_run from near to far count) l ≡ max (min (bit_at to l) (1 - bit_at (2 ^ (far + count) - 2 ^ far) l))
    (bit_at (run_at from near far count) l)
with_run-bit from near to far count l room lt =
    bit_at_or (bit_and to (bit_not mask_width (2 ^ (far + count) - 2 ^ far))) (run_at from near far count) l
    ∙ ap (λ x. max x (bit_at (run_at from near far count) l))
    (bit_at_and to (bit_not mask_width (2 ^ (far + count) - 2 ^ far)) l
    ∙ ap (min (bit_at to l)) (bit_at_not mask_width (2 ^ (far + count) - 2 ^ far) l (run-lt far count room) lt))

pub with_run-moved : (from near to far count k : ℕ) → far + count ≤ WIDEST → k < count → bit_at (with_run from near to far count) (far + k) ≡
    bit_at from (near + k)
with_run-moved from near to far count k room lt =
    let bit : bit_at (with_run from near to far count) (far + k)
    ≡ max (min (bit_at to (far + k)) (1 - bit_at (2 ^ (far + count) - 2 ^ far) (far + k))) (bit_at (run_at from near far count) (far + k)) =
    with_run-bit from near to far count (far + k) room (omega arith) in
    let one : bit_at (2 ^ (far + count) - 2 ^ far) (far + k) ≡ 1 = bit_at_mask_inside far (far + count) (far + k) (omega arith) (omega arith) in
    let there : bit_at (run_at from near far count) (far + k) ≡ bit_at from (near + k) = run_at-inside from near far count k room lt in
    omega arith

run-outside : (far count l : ℕ) → (l < far) ⊎ (far + count ≤ l) → bit_at (2 ^ (far + count) - 2 ^ far) l ≡ 0
run-outside far count l outside =
    ⊎_elim (λ below. bit_at_mask_below far (far + count) l below) (λ above. bit_at_mask_above far (far + count) l above) outside

kept_inside : (from near to far count l : ℕ) → far + count ≤ WIDEST → (l < far) ⊎ (far + count ≤ l) → l < WIDEST →
    bit_at (with_run from near to far count) l ≡ bit_at to l
kept_inside from near to far count l room outside lt =
    let bit : bit_at (with_run from near to far count) l
    ≡ max (min (bit_at to l) (1 - bit_at (2 ^ (far + count) - 2 ^ far) l)) (bit_at (run_at from near far count) l) =
    with_run-bit from near to far count l room lt in
    let none : bit_at (2 ^ (far + count) - 2 ^ far) l ≡ 0 = run-outside far count l outside in
    let empty : bit_at (run_at from near far count) l ≡ 0 = run_at-outside from near far count l room outside in
    let two : bit_at to l < 2 = bit_at-lt to l in
    omega arith

-- two masks of as many bits as the widest bus has lanes with the same bits have the same ones above too
pub all_bits : (x y l : ℕ) → x < 2 ^ WIDEST → y < 2 ^ WIDEST → (l < WIDEST → bit_at x l ≡ bit_at y l) → bit_at x l ≡ bit_at y l
all_bits x y l fits_x fits_y inside =
    ⊎_elim inside (λ above. bit_at_above x WIDEST l fits_x above ∙ sym (bit_at_above y WIDEST l fits_y above)) (cases_lt l WIDEST)

pub with_run-kept : (from near to far count l : ℕ) → to < 2 ^ WIDEST → far + count ≤ WIDEST → (l < far) ⊎ (far + count ≤ l) →
    bit_at (with_run from near to far count) l ≡ bit_at to l
with_run-kept from near to far count l fits room outside =
    all_bits (with_run from near to far count) to l
    (or_lt WIDEST (bit_and to (bit_not mask_width (2 ^ (far + count) - 2 ^ far))) (run_at from near far count)
    (omega (arith, and_le_l to (bit_not mask_width (2 ^ (far + count) - 2 ^ far))))
    (omega arith))
    fits (kept_inside from near to far count l room outside)
