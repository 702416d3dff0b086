-- Reading digits from the left.
use Rattle.tl_trace.proofs.Names.{◌≡◌, ℕ, ◌+◌, ◌*◌, ◌^◌, ◌<◌, ◌≤◌, Bool, true, false, cond, List, length, get_or, take, Some, None, refl, sym, ap}
use Rattle.tl_trace.proofs.Names.{◌∙◌, add-one, arith, pow-suc, pow-le-pow_right, take_all, list_all_more, list_all_at, nat_tests, list_all}
use Rattle.tl_trace.proofs.Names.{digits_value, digit_value, is_hex, digit_of, number_of}
use Rattle.std.proofs.lemmas.Int.Digits.{digits_value_more}

pub room : (n i d : ℕ) → i < 16 → n < 16 ^ i → d ≤ 15 → n * 16 + d < 2 ^ 64
room n i d lt small below =
    let le : i ≤ 15 = omega arith in
    let top : 16 ^ i ≤ 16 ^ 15 = pow-le-pow_right {n = 16} (omega arith) {i = i} {j = 15} le in
    omega arith

pub wider : (n i d : ℕ) → n < 16 ^ i → d ≤ 15 → n * 16 + d < 16 ^ (i + 1)
wider n i d small below = rw (add-one, pow-suc) (omega arith)

pub hex_small : (c : ℕ) → is_hex c ≡ true → digit_value c < 16
hex_small c h = grind (arith, nat_tests)

pub good_digit : (b : Bool) (v d : ℕ) → d ≡ cond b v 16 → d ≤ 15 → (b ≡ true) × (v ≡ d)
good_digit true v d e le = (refl, sym e)
good_digit false v d e le = absurd (omega arith)

pub bad_digit : (b : Bool) (v d : ℕ) → (b ≡ true → v < 16) → d ≡ cond b v 16 → 15 < d → b ≡ false
bad_digit true v d h e lt = let small : v < 16 = h refl in absurd (omega arith)
bad_digit false v d h e lt = refl

pub step : (ds : List ℕ) (i n d : ℕ) → i < length ds → list_all is_hex (take i ds) ≡ true → n ≡ digits_value 16 (take i ds)
    → d ≡ digit_of (get_or ds i 0) → d ≤ 15
    → (list_all is_hex (take (i + 1) ds) ≡ true) × (n * 16 + d ≡ digits_value 16 (take (i + 1) ds))
step ds i n d lt good value digit le =
    let g = good_digit (is_hex (get_or ds i 0)) (digit_value (get_or ds i 0)) d digit le in
    (rw (list_all_more is_hex ds i 0 lt, good, g.0) refl, rw (digits_value_more 16 ds i lt, ← value, g.1) refl)

pub fails : (ds : List ℕ) (i d : ℕ) → i < length ds → d ≡ digit_of (get_or ds i 0) → 15 < d → number_of ds ≡ None
unfolding number_of
fails ds i d lt digit big =
    let bad = bad_digit (is_hex (get_or ds i 0)) (digit_value (get_or ds i 0)) d (hex_small (get_or ds i 0)) digit big in
    rw (list_all_at is_hex ds i 0 lt bad) refl

pub is_done : (ds : List ℕ) (i n : ℕ) → length ds ≤ i → list_all is_hex (take i ds) ≡ true → n ≡ digits_value 16 (take i ds) → number_of ds ≡ Some n
unfolding number_of
is_done ds i n le good value =
    let all = take_all i ds le in
    rw (ap (list_all is_hex) (sym all) ∙ good, value ∙ ap (digits_value 16) all) refl
