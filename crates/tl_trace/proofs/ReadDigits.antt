-- Numbers read without a test of each digit: a bad digit shows in the bits above the lowest four.
use Rattle.tl_trace.proofs.Names.{◌≡◌, ℕ, zero, suc, ◌+◌, ◌-◌, ◌*◌, ◌%◌, ◌^◌, ◌<◌, ◌≤◌, Bool, true, false, cond, nat_eq, nat_lt, List, [], ◌∷◌, ◌++◌}
use Rattle.tl_trace.proofs.Names.{length, length-append, get_or, set, take, drop, replicate, Option, Some, None, refl, sym, ap, ◌∙◌, add-one, arith}
use Rattle.tl_trace.proofs.Names.{eq-eqb, subst, bit_or, inl, inr, pow-suc, pow-add, eqb-true, lt-ltb, ltb-true, ltb-false, and_parts, and_from}
use Rattle.tl_trace.proofs.Names.{cases_lt, and_left, and_right, le_or_l, le_or_r, or_lt, take-append-drop, take_all, length-set, length-replicate}
use Rattle.tl_trace.proofs.Names.{length-take-le, length-drop, drop-set, list_all, slice_range, slice_index, digits_value, digits_value_after}
use Rattle.tl_trace.proofs.Names.{digit_value, list_all-append, number_of_lanes, is_hex, is_lanes, digit_of, number_of, field_at, IsNumber, IsPair}
use Rattle.tl_trace.proofs.Names.{IsSpelt, nat_tests}
use Rattle.tl_trace.proofs.HexDigits.{room, wider, step, fails, is_done}

-- ---- bad digits

pub left_good : {most : ℕ} (x y : ℕ) → bit_or x y ≤ most → x ≤ most
left_good x y le = omega (arith, le_or_l x y, le)

pub right_good : {most : ℕ} (x y : ℕ) → bit_or x y ≤ most → y ≤ most
right_good x y le = omega (arith, le_or_r x y, le)

-- if the combination of two numbers is above a limit, one of them is
bad_of : {A : Type 0} (k most x y : ℕ) → most + 1 ≡ 2 ^ k → most < bit_or x y → (most < x → A) → (most < y → A) → A
bad_of {A} k most x y power lt left right = elim (cases_lt most x) [
  | inl big ↦ left big
  | inr few ↦ elim (cases_lt most y) [
    | inl big ↦ right big
    | inr few' ↦ absurd (omega (arith, or_lt k x y (omega (arith, few, power)) (omega (arith, few', power)), power, lt))
  ]
]

pub bad_or : {A : Type 0} (x y : ℕ) → 15 < bit_or x y → (15 < x → A) → (15 < y → A) → A
bad_or x y = bad_of 4 15 x y refl

bad_pairs : {A : Type 0} (x y : ℕ) → 255 < bit_or x y → (255 < x → A) → (255 < y → A) → A
bad_pairs x y = bad_of 8 255 x y refl

none_either : {A : Type 0} (b : Bool) (o : Option A) → o ≡ None → cond b o None ≡ None
none_either true o e = e
none_either false o e = refl

pub range_long : (text : List ℕ) (at n : ℕ) → at + n ≤ length text → length (slice_range text at (at + n)) ≡ n
range_long text at n le =
    let here : (at + n) - at ≡ n = omega arith in
    length-take-le ((at + n) - at) (drop at text) (omega (arith, length-drop at text)) ∙ here

-- ---- a number

-- the digits so far are digits, and the number is theirs
pub record Spelt (digits : List ℕ) (i n : ℕ) : Type 0 where
  pub good : list_all is_hex (take i digits) ≡ true
  pub value : n ≡ digits_value 16 (take i digits)
  pub small : n < 16 ^ i

-- the digits so far are digits, unless one was bad: then they spell no number
pub record SpeltSoFar (digits : List ℕ) (i n bad : ℕ) : Type 0 where
  pub spelt : bad ≤ 15 → Spelt digits i n
  pub spoilt : 15 < bad → number_of digits ≡ None

pub spelt_start : (ds : List ℕ) → SpeltSoFar ds 0 0 0
spelt_start ds = record { spelt = λ le. record { good = refl; value = refl; small = omega arith }; spoilt = λ lt. absurd (omega (arith, lt)) }

spelt_more : (ds : List ℕ) (i n d : ℕ) → i < length ds → i < 16 → Spelt ds i n → d ≡ digit_of (get_or ds i 0) → d ≤ 15
    → Spelt ds (i + 1) ((n * 16 % 2 ^ 64 + d) % 2 ^ 64)
spelt_more ds i n d lt few s digit le =
    let top : n * 16 + d < 2 ^ 64 = room n i d few s.small le in
    let same : (n * 16 % 2 ^ 64 + d) % 2 ^ 64 ≡ n * 16 + d = omega arith in
    let more = step ds i n d lt s.good s.value digit le in
    let P : ℕ → Type 0 = Spelt ds (i + 1) in
    subst P (sym same) (record { good = more.0; value = more.1; small = wider n i d s.small le })

pub spelt_next : (ds : List ℕ) (i n bad d : ℕ) → i < length ds → i < 16 → SpeltSoFar ds i n bad → d ≡ digit_of (get_or ds i 0)
    → SpeltSoFar ds (i + 1) ((n * 16 % 2 ^ 64 + d) % 2 ^ 64) (bit_or bad d)
spelt_next ds i n bad d lt few f digit = record {
  spelt = λ le. spelt_more ds i n d lt few (f.spelt (left_good bad d le)) digit (right_good bad d le);
  spoilt = λ big. bad_or bad d big f.spoilt (fails ds i d lt digit);
}

pub spelt_done : (ds : List ℕ) (i n bad : ℕ) → length ds ≤ i → i ≤ length ds → SpeltSoFar ds i n bad → IsSpelt ds n bad
spelt_done ds i n bad le ge f =
    let same : i ≡ length ds = omega arith in
    let P : ℕ → Type 0 = λ k. n < 16 ^ k in
    record {
      good = λ good. let s = f.spelt good in is_done ds i n le s.good s.value;
      small = λ good. subst P same (f.spelt good).small;
      none = f.spoilt;
    }

-- ---- after a space

-- digits after a space
pub spelt_after : (text : List ℕ) (at count n space bad : ℕ) → at + 1 + count ≤ length text → space ≡ cond (nat_eq (slice_index text at) 32) 0 16
    → IsSpelt (slice_range text (at + 1) (at + 1 + count)) n bad → IsNumber text at count n (bit_or space bad)
unfolding field_at
spelt_after text at count n space bad fits is s =
    let ds = slice_range text (at + 1) (at + 1 + count) in
    let long : length ds ≡ count = range_long text (at + 1) count fits in
    let P : ℕ → Type 0 = λ k. n < 16 ^ k in
    record {
      good = λ good. rw (there (nat_eq (slice_index text at) 32) is (left_good space bad good)) (s.good (right_good space bad good));
      small = λ good. subst P long (s.small (right_good space bad good));
      none = λ big. bad_or space bad big
          (λ worse. ap (λ (b : Bool). cond b (number_of ds) None) (missing (nat_eq (slice_index text at) 32) is worse))
          (λ worse. none_either (nat_eq (slice_index text at) 32) (number_of ds) (s.none worse));
    }
  where
    there : (b : Bool) → space ≡ cond b 0 16 → space ≤ 15 → b ≡ true
    there true is le = refl
    there false is le = absurd (omega (arith, is, le))

    missing : (b : Bool) → space ≡ cond b 0 16 → 15 < space → b ≡ false
    missing true is lt = absurd (omega (arith, is, lt))
    missing false is lt = refl

-- ---- digits after digits

value_after : (n : ℕ) (ys : List ℕ) → digits_value_after 16 n ys ≡ n * 16 ^ length ys + digits_value 16 ys
value_after n [] = omega arith
value_after n (y ∷ ys) =
    let here = value_after (n * 16 + digit_value y) ys in
    let rest = value_after (0 * 16 + digit_value y) ys in
    let power : 16 ^ suc (length ys) ≡ 16 ^ length ys * 16 = pow-suc 16 (length ys) in
    let spread : (n * 16 + digit_value y) * 16 ^ length ys ≡ n * (16 ^ length ys * 16) + digit_value y * 16 ^ length ys = grind arith in
    let long : length (y ∷ ys) ≡ suc (length ys) = refl in
    omega (arith, here, rest, spread) ∙ ap (λ (p : ℕ). n * p + digits_value 16 (y ∷ ys)) (sym power)

value_append : (n : ℕ) (xs ys : List ℕ) → digits_value_after 16 n (xs ++ ys) ≡ digits_value_after 16 (digits_value_after 16 n xs) ys
value_append n [] ys = refl
value_append n (x ∷ xs) ys = value_append (n * 16 + digit_value x) xs ys

-- digits that form a number
number_good : (ds : List ℕ) (n : ℕ) → number_of ds ≡ Some n → (list_all is_hex ds ≡ true) × (digits_value 16 ds ≡ n)
unfolding number_of
number_good ds n e = pick (list_all is_hex ds) refl e
  where
    pick : (b : Bool) → list_all is_hex ds ≡ b → cond b (Some (digits_value 16 ds)) None ≡ Some n
        → (list_all is_hex ds ≡ true) × (digits_value 16 ds ≡ n)
    pick true is e = (is, cc)
    pick false is e = absurd cc

number_bad : (ds : List ℕ) → number_of ds ≡ None → list_all is_hex ds ≡ false
unfolding number_of
number_bad ds e = pick (list_all is_hex ds) refl e
  where
    pick : (b : Bool) → list_all is_hex ds ≡ b → cond b (Some (digits_value 16 ds)) None ≡ None → list_all is_hex ds ≡ false
    pick true is e = absurd cc
    pick false is e = is

-- the number of the digits before the last 16
pub spelt_both : (xs ys : List ℕ) (a b bad bad' : ℕ) → length ys ≡ 16 → IsSpelt xs a bad → IsSpelt ys b bad'
    → IsSpelt (xs ++ ys) (a * 2 ^ 64 + b) (bit_or bad bad')
unfolding number_of
spelt_both xs ys a b bad bad' sixteen x y = record {
  good = λ le.
      let high = number_good xs a (x.good (left_good bad bad' le)) in
      let low = number_good ys b (y.good (right_good bad bad' le)) in
      let all : list_all is_hex (xs ++ ys) ≡ true = list_all-append is_hex xs ys ∙ and_from (list_all is_hex xs) (list_all is_hex ys) high.0 low.0 in
      let value : digits_value 16 (xs ++ ys) ≡ a * 2 ^ 64 + b =
      value_append 0 xs ys ∙ value_after (digits_value 16 xs) ys ∙ ap (λ (k : ℕ). digits_value 16 xs * 16 ^ k + digits_value 16 ys) sixteen
      ∙ omega (arith, high.1, low.1) in
      rw (all, value) refl;
  small = λ le.
      let high = x.small (left_good bad bad' le) in
      let low = y.small (right_good bad bad' le) in
      let power : 16 ^ (length xs + length ys) ≡ 16 ^ length xs * 16 ^ length ys = pow-add 16 (length xs) (length ys) in
      let long : length (xs ++ ys) ≡ length xs + length ys = length-append xs ys in
      let P : ℕ → Type 0 = λ k. a * 2 ^ 64 + b < k in
      let few : b < 16 ^ 16 = subst (λ (k : ℕ). b < 16 ^ k) sixteen low in
      let here : a * 2 ^ 64 + b < 16 ^ length xs * 16 ^ 16 = omega (arith, high, few) in
      subst P (sym (ap (λ (k : ℕ). 16 ^ k) long ∙ power ∙ ap (λ (k : ℕ). 16 ^ length xs * 16 ^ k) sixteen)) here;
  none = λ big.
      let out : list_all is_hex (xs ++ ys) ≡ false = list_all-append is_hex xs ys ∙ bad_or bad bad' big
      (λ worse. and_left (list_all is_hex xs) (list_all is_hex ys) (number_bad xs (x.none worse)))
      (λ worse. and_right (list_all is_hex xs) (list_all is_hex ys) (number_bad ys (y.none worse))) in
      rw out refl;
}

-- digits whose last 16 are read apart from those before them
pub spelt_split : (ds : List ℕ) (m a b bad bad' : ℕ) → m + 16 ≡ length ds → IsSpelt (take m ds) a bad → IsSpelt (slice_range ds m (length ds)) b bad'
    → IsSpelt ds (a * 2 ^ 64 + b) (bit_or bad bad')
spelt_split ds m a b bad bad' is high low =
    let P : List ℕ → Type 0 = λ xs. IsSpelt xs (a * 2 ^ 64 + b) (bit_or bad bad') in
    let all : slice_range ds m (length ds) ≡ drop m ds = take_all (length ds - m) (drop m ds) (omega (arith, length-drop m ds)) in
    let sixteen : length (slice_range ds m (length ds)) ≡ 16 = ap length all ∙ omega (arith, length-drop m ds) in
    subst P (ap (λ (xs : List ℕ). take m ds ++ xs) all ∙ take-append-drop m ds)
    (spelt_both (take m ds) (slice_range ds m (length ds)) a b bad bad' sixteen high low)

-- ---- lanes

pub lanes_parts : (n : ℕ) (lanes : List ℕ) → is_lanes n lanes ≡ true → (length lanes ≡ n) × (list_all (λ lane. nat_lt lane 256) lanes ≡ true)
lanes_parts n lanes all =
    let both = and_parts (nat_eq (length lanes) n) (list_all (λ lane. nat_lt lane 256) lanes) all in
    (eqb-true (length lanes) n both.0, both.1)

pub zero_lanes : (lanes : List ℕ) (w : ℕ) → number_of_lanes lanes ≡ 0 → number_of_lanes (drop w lanes) ≡ 0
zero_lanes lanes zero e = e
zero_lanes [] (suc w) e = refl
zero_lanes (lane ∷ lanes) (suc w) e = zero_lanes lanes w (omega arith)

pub bytes_set : (lanes : List ℕ) (i v : ℕ) → v < 256 → list_all (λ lane. nat_lt lane 256) lanes ≡ true
    → list_all (λ lane. nat_lt lane 256) (set lanes i v) ≡ true
bytes_set [] i v lt e = refl
bytes_set (lane ∷ lanes) zero v lt e =
    and_from (nat_lt v 256) (list_all (λ lane. nat_lt lane 256) lanes) (lt-ltb v 256 lt)
    (and_parts (nat_lt lane 256) (list_all (λ lane. nat_lt lane 256) lanes) e).1
bytes_set (lane ∷ lanes) (suc i) v lt e =
    and_from (nat_lt lane 256) (list_all (λ lane. nat_lt lane 256) (set lanes i v))
    (and_parts (nat_lt lane 256) (list_all (λ lane. nat_lt lane 256) lanes) e).0
    (bytes_set lanes i v lt (and_parts (nat_lt lane 256) (list_all (λ lane. nat_lt lane 256) lanes) e).1)

pub zero_bytes : (n : ℕ) → list_all (λ lane. nat_lt lane 256) (replicate n 0) ≡ true
zero_bytes zero = refl
zero_bytes (suc n) = zero_bytes n

pub zero_are : (w : ℕ) → is_lanes w (replicate w 0) ≡ true
zero_are w =
    let long : length (replicate {A = ℕ} w 0) ≡ w = length-replicate {A = ℕ} w 0 in
    rw (eq-eqb (length (replicate {A = ℕ} w 0)) w long) (zero_bytes w)

pub squares : (w : ℕ) → 256 ^ w ≡ 16 ^ (2 * w)
squares zero = refl
squares (suc w) =
    let more : 2 * suc w ≡ 2 * w + 2 = omega arith in
    let power : 16 ^ (2 * w + 2) ≡ 16 ^ (2 * w) * 256 = pow-add 16 (2 * w) 2 in
    omega (arith, pow-suc 256 w, power, squares w) ∙ ap (λ (n : ℕ). 16 ^ n) (sym more)

-- ---- pairs

high_parts : (d v : ℕ) → v ≡ cond (nat_lt 15 d) 256 (16 * d) → (v ≤ 256) × (v ≤ 255 → (d ≤ 15) × (v ≡ 16 * d)) × (255 < v → 15 < d)
high_parts d v is = pick (nat_lt 15 d) refl is
  where
    pick : (b : Bool) → nat_lt 15 d ≡ b → v ≡ cond b 256 (16 * d) → (v ≤ 256) × (v ≤ 255 → (d ≤ 15) × (v ≡ 16 * d)) × (255 < v → 15 < d)
    pick true e is = (omega (arith, is), λ le. absurd (omega (arith, is, le)), λ lt. ltb-true 15 d e)
    pick false e is = let few = ltb-false 15 d e in
        (omega (arith, is, few), λ le. (omega (arith, few), is), λ lt. absurd (omega (arith, is, few, lt)))

low_parts : (d v : ℕ) → v ≡ cond (nat_lt 15 d) 256 d → (v ≤ 256) × (v ≤ 255 → (d ≤ 15) × (v ≡ d)) × (255 < v → 15 < d)
low_parts d v is = pick (nat_lt 15 d) refl is
  where
    pick : (b : Bool) → nat_lt 15 d ≡ b → v ≡ cond b 256 d → (v ≤ 256) × (v ≤ 255 → (d ≤ 15) × (v ≡ d)) × (255 < v → 15 < d)
    pick true e is = (omega (arith, is), λ le. absurd (omega (arith, is, le)), λ lt. ltb-true 15 d e)
    pick false e is = let few = ltb-false 15 d e in
        (omega (arith, is, few), λ le. (omega (arith, few), is), λ lt. absurd (omega (arith, is, few, lt)))

pub pair_fits : (h l high low : ℕ) → high ≡ cond (nat_lt 15 h) 256 (16 * h) → low ≡ cond (nat_lt 15 l) 256 l → high + low ≤ 512
pair_fits h l high low high_is low_is = let x = (high_parts h high high_is).0 in let y = (low_parts l low low_is).0 in omega arith

pub pair_good : (first second high low : ℕ) → high ≡ cond (nat_lt 15 (digit_of first)) 256 (16 * digit_of first)
    → low ≡ cond (nat_lt 15 (digit_of second)) 256 (digit_of second)
    → high + low ≤ 255 → IsPair first second (high + low)
pair_good first second high low high_is low_is le =
    let x = (high_parts (digit_of first) high high_is).1 (omega arith) in
    let y = (low_parts (digit_of second) low low_is).1 (omega arith) in
    record { high = x.0; low = y.0; is = omega (arith, x.1, y.1) }

pub pair_bad : (h l high low : ℕ) → high ≡ cond (nat_lt 15 h) 256 (16 * h) → low ≡ cond (nat_lt 15 l) 256 l → 255 < high + low → h ≤ 15 → 15 < l
pair_bad h l high low high_is low_is big le = pick (nat_lt 255 high) (nat_lt 255 low) refl refl
  where
    pick : (p q : Bool) → nat_lt 255 high ≡ p → nat_lt 255 low ≡ q → 15 < l
    pick p true e e' = (low_parts l low low_is).2 (ltb-true 255 low e')
    pick true false e e' = let worse = (high_parts h high high_is).2 (ltb-true 255 high e) in absurd (omega (arith, worse, le))
    pick false false e e' =
        let x = (high_parts h high high_is).1 (omega (arith, ltb-false 255 high e)) in
        let y = (low_parts l low low_is).1 (omega (arith, ltb-false 255 low e')) in
        absurd (omega (arith, x.1, y.1, y.0, le, big))

marked : (pairs bad : ℕ) → bad ≡ cond (nat_lt 255 pairs) 16 0 → (bad ≤ 15 → pairs ≤ 255) × (15 < bad → 255 < pairs)
marked pairs bad is = (λ le. grind (arith, nat_tests), λ lt. grind (arith, nat_tests))

-- if a pair has no value, there is no number
unspelt_pair : (ds : List ℕ) (i pair : ℕ) → 2 * i + 1 < length ds
    → (255 < pair → digit_of (get_or ds (2 * i) 0) ≤ 15 → 15 < digit_of (get_or ds (2 * i + 1) 0)) → 255 < pair → number_of ds ≡ None
unspelt_pair ds i pair lt either big = pick (nat_lt 15 high) refl
  where
    high : ℕ
    high = digit_of (get_or ds (2 * i) 0)

    pick : (b : Bool) → nat_lt 15 high ≡ b → number_of ds ≡ None
    pick true e = fails ds (2 * i) high (omega (arith, lt)) refl (ltb-true 15 high e)
    pick false e = fails ds (2 * i + 1) (digit_of (get_or ds (2 * i + 1) 0)) lt refl (either big (omega (arith, ltb-false 15 high e)))

-- the digits so far are digits, and the number is theirs, unless a pair had no value: then there is no number
pub record Pairs (digits : List ℕ) (i n pairs : ℕ) : Type 0 where
  pub spelt : pairs ≤ 255 → Spelt digits (2 * i) n
  pub spoilt : 255 < pairs → number_of digits ≡ None

pub pairs_start : (ds : List ℕ) → Pairs ds 0 0 0
pairs_start ds = record { spelt = λ le. record { good = refl; value = refl; small = omega arith }; spoilt = λ lt. absurd (omega (arith, lt)) }

spelt_pair : (ds : List ℕ) (i n pair : ℕ) → 2 * i + 1 < length ds → 2 * i + 1 < 16 → Spelt ds (2 * i) n
    → IsPair (get_or ds (2 * i) 0) (get_or ds (2 * i + 1) 0) pair → Spelt ds (2 * (i + 1)) ((n * 256 % 2 ^ 64 + pair) % 2 ^ 64)
spelt_pair ds i n pair lt few s p =
    let high = digit_of (get_or ds (2 * i) 0) in
    let low = digit_of (get_or ds (2 * i + 1) 0) in
    let one = step ds (2 * i) n high (omega (arith, lt)) s.good s.value refl p.high in
    let two = step ds (2 * i + 1) (n * 16 + high) low lt one.0 one.1 refl p.low in
    let small : n * 16 + high < 16 ^ (2 * i + 1) = wider n (2 * i) high s.small p.high in
    let top : (n * 16 + high) * 16 + low < 2 ^ 64 = room (n * 16 + high) (2 * i + 1) low few small p.low in
    let same : (n * 256 % 2 ^ 64 + pair) % 2 ^ 64 ≡ (n * 16 + high) * 16 + low = omega (arith, top, p.is) in
    let twice : 2 * (i + 1) ≡ 2 * i + 1 + 1 = omega arith in
    let P : ℕ → Type 0 = Spelt ds (2 * (i + 1)) in
    let Q : ℕ → Type 0 = λ k. Spelt ds k ((n * 16 + high) * 16 + low) in
    subst P (sym same) (subst Q (sym twice) (record { good = two.0; value = two.1; small = wider (n * 16 + high) (2 * i + 1) low small p.low }))

pub pairs_more : (ds : List ℕ) (i n pairs pair : ℕ) → 2 * i + 1 < length ds → 2 * i + 1 < 16 → Pairs ds i n pairs
    → (pair ≤ 255 → IsPair (get_or ds (2 * i) 0) (get_or ds (2 * i + 1) 0) pair)
    → (255 < pair → digit_of (get_or ds (2 * i) 0) ≤ 15 → 15 < digit_of (get_or ds (2 * i + 1) 0))
    → Pairs ds (i + 1) ((n * 256 % 2 ^ 64 + pair) % 2 ^ 64) (bit_or pairs pair)
pairs_more ds i n pairs pair lt few f good bad = record {
  spelt = λ le. spelt_pair ds i n pair lt few (f.spelt (left_good pairs pair le)) (good (right_good pairs pair le));
  spoilt = λ big. bad_pairs pairs pair big f.spoilt (unspelt_pair ds i pair lt bad);
}

pub pairs_done : (ds : List ℕ) (i n pairs mark : ℕ) → 2 * i ≡ length ds → Pairs ds i n pairs → mark ≡ cond (nat_lt 255 pairs) 16 0 → IsSpelt ds n mark
pairs_done ds i n pairs mark same f marks =
    let P : ℕ → Type 0 = λ k. n < 16 ^ k in
    record {
      good = λ good. let s = f.spelt ((marked pairs mark marks).0 good) in is_done ds (2 * i) n (omega (arith, same)) s.good s.value;
      small = λ good. subst P same (f.spelt ((marked pairs mark marks).0 good)).small;
      none = λ big. f.spoilt ((marked pairs mark marks).1 big);
    }

-- lanes so far, from the highest
pub record Laid (digits lanes : List ℕ) (w i : ℕ) : Type 0 where
  pub small : number_of_lanes (drop (w - i) lanes) < 256 ^ i
  pub good : list_all is_hex (take (2 * i) digits) ≡ true
  pub value : number_of_lanes (drop (w - i) lanes) ≡ digits_value 16 (take (2 * i) digits)

-- the first w of n lanes
pub record Lanes (text lanes : List ℕ) (n at w i pairs : ℕ) : Type 0 where
  pub long : length lanes ≡ n
  pub bytes : list_all (λ lane. nat_lt lane 256) lanes ≡ true
  pub laid : pairs ≤ 255 → Laid (slice_range text (at + 1) (at + 1 + 2 * w)) lanes w i
  pub spoilt : 255 < pairs → number_of (slice_range text (at + 1) (at + 1 + 2 * w)) ≡ None

pub lanes_start : (text lanes : List ℕ) (n at w : ℕ) → is_lanes n lanes ≡ true → number_of_lanes lanes ≡ 0 → Lanes text lanes n at w 0 0
lanes_start text lanes n at w all dark =
    let parts = lanes_parts n lanes all in
    let whole : w - 0 ≡ w = omega arith in
    let none : number_of_lanes (drop (w - 0) lanes) ≡ 0 = ap (λ (k : ℕ). number_of_lanes (drop k lanes)) whole ∙ zero_lanes lanes w dark in
    record {
      long = parts.0;
      bytes = parts.1;
      laid = λ le. record { small = omega (arith, none); good = refl; value = none };
      spoilt = λ lt. absurd (omega (arith, lt));
    }

laid_more : (ds lanes : List ℕ) (w i high low : ℕ) → i < w → w ≤ length lanes → length ds ≡ 2 * w → Laid ds lanes w i
    → high ≡ digit_of (get_or ds (2 * i) 0) → high ≤ 15 → low ≡ digit_of (get_or ds (2 * i + 1) 0) → low ≤ 15
    → Laid ds (set lanes (w - 1 - i) (high * 16 + low)) w (i + 1)
laid_more ds lanes w i high low lt wide long far h h_le l l_le =
    let number = digits_value 16 (take (2 * i) ds) in
    let one = step ds (2 * i) number high (omega arith) far.good refl h h_le in
    let two = step ds (2 * i + 1) (number * 16 + high) low (omega arith) one.0 one.1 l l_le in
    let twice : 2 * (i + 1) ≡ 2 * i + 1 + 1 = omega arith in
    let place : w - (i + 1) ≡ w - 1 - i = omega arith in
    let after : w - 1 - i + 1 ≡ w - i = omega arith in
    let is : drop (w - 1 - i) (set lanes (w - 1 - i) (high * 16 + low)) ≡ (high * 16 + low) ∷ drop (w - i) lanes =
    drop-set lanes (w - 1 - i) (high * 16 + low) (omega (arith, wide)) ∙ ap (λ (k : ℕ). (high * 16 + low) ∷ drop k lanes) after in
    record {
      small =
          let most : 256 ^ suc i ≡ 256 ^ i * 256 = pow-suc 256 i in
          let same : number_of_lanes (drop (w - (i + 1)) (set lanes (w - 1 - i) (high * 16 + low))) ≡ (high * 16 + low) + 256 * number_of_lanes
          (drop (w - i) lanes) =
          ap (λ (k : ℕ). number_of_lanes (drop k (set lanes (w - 1 - i) (high * 16 + low)))) place ∙ ap number_of_lanes is in
          rw (same, add-one i, most) (omega (arith, far.small));
      good = ap (λ (k : ℕ). list_all is_hex (take k ds)) twice ∙ two.0;
      value = ap (λ (k : ℕ). number_of_lanes (drop k (set lanes (w - 1 - i) (high * 16 + low)))) place ∙ ap number_of_lanes is
          ∙ omega (arith, far.value) ∙ two.1 ∙ ap (λ (k : ℕ). digits_value 16 (take k ds)) (sym twice);
    }

pub lanes_more : (text lanes : List ℕ) (n at w i pairs pair : ℕ) → i < w → w ≤ n → length (slice_range text (at + 1) (at + 1 + 2 * w)) ≡ 2 * w
    → Lanes text lanes n at w i pairs
    → (pair ≤ 255 → IsPair (get_or (slice_range text (at + 1) (at + 1 + 2 * w)) (2 * i) 0)
    (get_or (slice_range text (at + 1) (at + 1 + 2 * w)) (2 * i + 1) 0) pair)
    → (255 < pair → digit_of (get_or (slice_range text (at + 1) (at + 1 + 2 * w)) (2 * i) 0) ≤ 15 →
    15 < digit_of (get_or (slice_range text (at + 1) (at + 1 + 2 * w)) (2 * i + 1) 0))
    → Lanes text (set lanes (w - 1 - i) (pair % 256)) n at w (i + 1) (bit_or pairs pair)
lanes_more text lanes n at w i pairs pair lt most long far good bad =
    let ds = slice_range text (at + 1) (at + 1 + 2 * w) in
    record {
      long = length-set lanes (w - 1 - i) (pair % 256) ∙ far.long;
      bytes = bytes_set lanes (w - 1 - i) (pair % 256) (omega arith) far.bytes;
      laid = λ le.
          let small = right_good pairs pair le in
          let p = good small in
          let high = digit_of (get_or ds (2 * i) 0) in
          let low = digit_of (get_or ds (2 * i + 1) 0) in
          let same : pair % 256 ≡ high * 16 + low = omega (arith, p.is, small) in
          let P : ℕ → Type 0 = λ v. Laid ds (set lanes (w - 1 - i) v) w (i + 1) in
          subst P (sym same) (laid_more ds lanes w i high low lt (omega (arith, far.long)) long (far.laid (left_good pairs pair le)) refl p.high
          refl p.low);
      spoilt = λ big. bad_pairs pairs pair big far.spoilt (unspelt_pair ds i pair (omega (arith, long)) bad);
    }

pub lanes_are : (text lanes : List ℕ) (n at w i pairs : ℕ) → Lanes text lanes n at w i pairs → is_lanes n lanes ≡ true
lanes_are text lanes n at w i pairs far = rw (eq-eqb (length lanes) n far.long) far.bytes

pub lanes_done : (text lanes : List ℕ) (n at w i pairs space mark : ℕ) → w ≤ i → i ≤ w → at + 1 + 2 * w ≤ length text
    → Lanes text lanes n at w i pairs
    → space ≡ cond (nat_eq (slice_index text at) 32) 0 16 → mark ≡ cond (nat_lt 255 pairs) 16 0
    → IsNumber text at (2 * w) (number_of_lanes lanes) (bit_or space mark)
lanes_done text lanes n at w i pairs space mark le ge fits far stands marks =
    let ds = slice_range text (at + 1) (at + 1 + 2 * w) in
    let long : length ds ≡ 2 * w = range_long text (at + 1) (2 * w) fits in
    let whole : w - i ≡ 0 = omega arith in
    let same : i ≡ w = omega arith in
    let here : number_of_lanes (drop (w - i) lanes) ≡ number_of_lanes lanes = ap (λ (k : ℕ). number_of_lanes (drop k lanes)) whole in
    let P : ℕ → Type 0 = λ k. number_of_lanes lanes < 256 ^ k in
    let Q : ℕ → Type 0 = λ k. number_of_lanes lanes < 16 ^ k in
    spelt_after text at (2 * w) (number_of_lanes lanes) space mark fits stands (record {
      good = λ good.
          let laid = far.laid ((marked pairs mark marks).0 good) in
          is_done ds (2 * i) (number_of_lanes lanes) (omega (arith, long)) laid.good (sym here ∙ laid.value);
      small = λ good.
          let laid = far.laid ((marked pairs mark marks).0 good) in
          let small : number_of_lanes lanes < 256 ^ i = omega (arith, here, laid.small) in
          subst Q (sym long) (subst (λ k. number_of_lanes lanes < k) (squares w) (subst P same small));
      none = λ big. far.spoilt ((marked pairs mark marks).1 big);
    })

pub lanes_small : (w n : ℕ) → n < 16 ^ (2 * w) → n < 256 ^ w
lanes_small w n lt = let e = squares w in omega (arith, e, lt)

pub zero_small : (w n : ℕ) → n ≡ 0 → n < 256 ^ w
zero_small zero n e = omega arith
zero_small (suc w) n e = let more : 256 ^ suc w ≡ 256 ^ w * 256 = pow-suc 256 w in let rest = zero_small w n e in omega (arith, more, rest)

pub zero_number : (n : ℕ) → number_of_lanes (replicate n 0) ≡ 0
zero_number zero = refl
zero_number (suc n) = let rest = zero_number n in omega (arith, rest)

pub zero_bits : (n : ℕ) → list_all (λ lane. nat_eq lane 0) (replicate n 0) ≡ true
zero_bits zero = refl
zero_bits (suc n) = zero_bits n
