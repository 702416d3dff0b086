-- Writing digits.
use Rattle.tl_trace.proofs.Names.{subst, ◌≡◌, ℕ, zero, suc, ◌+◌, ◌-◌, ◌*◌, ◌/◌, ◌%◌, ◌^◌, ◌<◌, ◌≤◌, List, [], ◌∷◌, ◌++◌, length, get_or, set, take}
use Rattle.tl_trace.proofs.Names.{drop, refl, sym, ap, ◌∙◌, arith, append_assoc, append-nil, length-append, drop-cons, add-one, length-set}
use Rattle.tl_trace.proofs.Names.{get_or-take, length-take-le, take_all, take_more_set, drop-set, drop_all, pow-suc, mul_comm, div-div-eq-div-mul}
use Rattle.tl_trace.proofs.Names.{digit_char, number_of_lanes, hex, WIDEST}
use Rattle.std.proofs.lemmas.Slice.{take-put_mid}
use borrow.Rule.Slice.PartMut.{put_mid}

pub length-hex : (count value : ℕ) → length (hex count value) ≡ count
length-hex zero value = refl
length-hex (suc count) value = length-append (hex count (value / 16)) (digit_char (value % 16) ∷ []) ∙ omega (arith, length-hex count (value / 16))

pub record HexSoFar (n value : ℕ) (digits : List ℕ) (rest i : ℕ) : Type 0 where
  pub long : length digits ≡ n
  pub made : hex (n - i) rest ++ drop (n - i) digits ≡ hex n value

pub hex_start : (n value : ℕ) (digits : List ℕ) → length digits ≡ n → HexSoFar n value digits value 0
hex_start n value digits long =
    let all : n - 0 ≡ n = omega arith in
    record {
      long = long;
      made = ap (λ (k : ℕ). hex k value ++ drop k digits) all ∙
          ap (λ (xs : List ℕ). hex n value ++ xs) (drop_all n digits (omega (arith, long))) ∙ append-nil (hex n value);
    }

pub hex_next : (n value : ℕ) (digits : List ℕ) (rest i digit : ℕ) → i < n → HexSoFar n value digits rest i → digit ≡ digit_char (rest % 16)
    → HexSoFar n value (set digits (n - 1 - i) digit) (rest / 16) (i + 1)
hex_next n value digits rest i digit lt far is =
    let k = n - 1 - i in
    let less : n - (i + 1) ≡ k = omega arith in
    let more : n - i ≡ suc k = omega arith in
    let there : drop k (set digits k digit) ≡ digit ∷ drop (suc k) digits =
    drop-set digits k digit (omega (arith, far.long)) ∙ ap (λ (m : ℕ). digit ∷ drop m digits) (add-one k) in
    record {
      long = length-set digits k digit ∙ far.long;
      made = ap (λ (m : ℕ). hex m (rest / 16) ++ drop m (set digits k digit)) less
          ∙ ap (λ (xs : List ℕ). hex k (rest / 16) ++ xs) (there ∙ ap (λ (x : ℕ). x ∷ drop (suc k) digits) is)
          ∙ sym (append_assoc (hex k (rest / 16)) (digit_char (rest % 16) ∷ []) (drop (suc k) digits))
          ∙ ap (λ (m : ℕ). hex m rest ++ drop m digits) (sym more) ∙ far.made;
    }

-- two digits at a time
pub pair_next : (n value : ℕ) (digits : List ℕ) (rest i low high : ℕ) → 2 * i + 1 < n → HexSoFar n value digits rest (2 * i)
    → low ≡ digit_char (rest % 256 % 16) → high ≡ digit_char (rest % 256 / 16 % 16)
    → HexSoFar n value (set (set digits (n - 1 - 2 * i) low) (n - 2 - 2 * i) high) (rest / 256) (2 * (i + 1))
pair_next n value digits rest i low high lt far l h =
    let low_is : rest % 256 % 16 ≡ rest % 16 = omega arith in
    let high_is : rest % 256 / 16 % 16 ≡ rest / 16 % 16 = omega arith in
    let one : HexSoFar n value (set digits (n - 1 - 2 * i) low) (rest / 16) (2 * i + 1) =
    hex_next n value digits rest (2 * i) low (omega arith) far (l ∙ ap digit_char low_is) in
    let two : HexSoFar n value (set (set digits (n - 1 - 2 * i) low) (n - 1 - (2 * i + 1)) high) (rest / 16 / 16) (2 * i + 1 + 1) =
    hex_next n value (set digits (n - 1 - 2 * i) low) (rest / 16) (2 * i + 1) high lt one (h ∙ ap digit_char high_is) in
    let place : n - 1 - (2 * i + 1) ≡ n - 2 - 2 * i = omega arith in
    let left : rest / 16 / 16 ≡ rest / 256 = omega arith in
    let count : 2 * i + 1 + 1 ≡ 2 * (i + 1) = omega arith in
    let P : ℕ → Type 0 = λ k. HexSoFar n value (set (set digits (n - 1 - 2 * i) low) k high) (rest / 16 / 16) (2 * i + 1 + 1) in
    let Q : ℕ → Type 0 = λ r. HexSoFar n value (set (set digits (n - 1 - 2 * i) low) (n - 2 - 2 * i) high) r (2 * i + 1 + 1) in
    let R : ℕ → Type 0 = λ c. HexSoFar n value (set (set digits (n - 1 - 2 * i) low) (n - 2 - 2 * i) high) (rest / 256) c in
    subst R count (subst Q left (subst P place two))

-- a space, and digits after it
pub after_space : (line digits made : List ℕ) (at k n : ℕ) → at < length line → n ≡ at + 1 + length digits → digits ≡ made
    → take n (put_mid (at + 1) k (set line at 32) digits) ≡ take at line ++ 32 ∷ made
after_space line digits made at k n lt e is =
    let within : at + 1 ≤ length (set line at 32) = omega (arith, length-set line at 32) in
    take-put_mid (at + 1) k (set line at 32) digits n e within ∙ ap (λ (xs : List ℕ). xs ++ digits) (take_more_set line at 32 lt)
    ∙ append_assoc (take at line) (32 ∷ []) digits ∙ ap (λ (xs : List ℕ). take at line ++ 32 ∷ xs) is

-- ---- the last digits of a number, and those before them

-- the lowest digits of a number do not depend on the higher ones
hex_low : (k m q r : ℕ) → k ≤ m → hex k (16 ^ m * q + r) ≡ hex k r
hex_low zero m q r le = refl
hex_low (suc k) zero q r le = absurd (omega arith)
hex_low (suc k) (suc m) q r le =
    let power : 16 ^ suc m ≡ 16 ^ m * 16 = pow-suc 16 m in
    let spread : 16 ^ m * 16 * q ≡ 16 * (16 ^ m * q) = grind arith in
    let whole : 16 ^ suc m * q + r ≡ 16 * (16 ^ m * q) + r = ap (λ (p : ℕ). p * q + r) power ∙ ap (λ (p : ℕ). p + r) spread in
    let up : (16 * (16 ^ m * q) + r) / 16 ≡ 16 ^ m * q + r / 16 = omega arith in
    let low : (16 * (16 ^ m * q) + r) % 16 ≡ r % 16 = omega arith in
    ap (hex (suc k)) whole
    ∙ ap (λ (n : ℕ). hex k n ++ digit_char ((16 * (16 ^ m * q) + r) % 16) ∷ []) up
    ∙ ap (λ (ds : List ℕ). ds ++ digit_char ((16 * (16 ^ m * q) + r) % 16) ∷ []) (hex_low k m q (r / 16) (omega arith))
    ∙ ap (λ (n : ℕ). hex k (r / 16) ++ digit_char n ∷ []) low

-- up to 16 digits are those of what a number leaves by 2 ^ 64
pub hex_rest : (count value : ℕ) → count ≤ 16 → hex count (value % 2 ^ 64) ≡ hex count value
hex_rest count value le =
    let whole : 16 ^ 16 * (value / 2 ^ 64) + value % 2 ^ 64 ≡ value = omega arith in
    sym (hex_low count 16 (value / 2 ^ 64) (value % 2 ^ 64) le) ∙ ap (hex count) whole

hex_join : (m k value : ℕ) → hex (m + k) value ≡ hex m (value / 16 ^ k) ++ hex k value
hex_join m zero value =
    let none : m + 0 ≡ m = omega arith in
    let all : value / 16 ^ 0 ≡ value = omega arith in
    ap (λ (n : ℕ). hex n value) none ∙ ap (hex m) (sym all) ∙ sym (append-nil (hex m (value / 16 ^ 0)))
hex_join m (suc k) value =
    let more : m + suc k ≡ suc (m + k) = omega arith in
    let power : 16 * 16 ^ k ≡ 16 ^ suc k = mul_comm 16 (16 ^ k) ∙ sym (pow-suc 16 k) in
    let up : value / 16 / 16 ^ k ≡ value / 16 ^ suc k = div-div-eq-div-mul value 16 (16 ^ k) ∙ ap (λ (p : ℕ). value / p) power in
    ap (λ (n : ℕ). hex n value) more
    ∙ ap (λ (ds : List ℕ). ds ++ digit_char (value % 16) ∷ []) (hex_join m k (value / 16) ∙ ap (λ (n : ℕ). hex m n ++ hex k (value / 16)) up)
    ∙ append_assoc (hex m (value / 16 ^ suc k)) (hex k (value / 16)) (digit_char (value % 16) ∷ [])

-- more digits are those of what is above 2 ^ 64, and 16 of what it leaves
pub hex_both : (m count value : ℕ) → m + 16 ≡ count → hex m (value / 2 ^ 64) ++ hex 16 (value % 2 ^ 64) ≡ hex count value
hex_both m count value is =
    ap (λ (ds : List ℕ). hex m (value / 2 ^ 64) ++ ds) (hex_rest 16 value (omega arith)) ∙ sym (hex_join m 16 value) ∙ ap (λ (n : ℕ). hex n value) is

-- the last 16 digits after those that were written before them
pub more_digits : (line digits front : List ℕ) (half k n m count value : ℕ) → half ≤ length line → n ≡ half + length digits → m + 16 ≡ count
    → take half line ≡ front ++ 32 ∷ hex m (value / 2 ^ 64) → digits ≡ hex 16 (value % 2 ^ 64)
    → take n (put_mid half k line digits) ≡ front ++ 32 ∷ hex count value
more_digits line digits front half k n m count value within e same before last =
    take-put_mid half k line digits n e within ∙ ap (λ (xs : List ℕ). xs ++ digits) before ∙ append_assoc front (32 ∷ hex m (value / 2 ^ 64)) digits
    ∙ ap (λ (ds : List ℕ). front ++ 32 ∷ (hex m (value / 2 ^ 64) ++ ds)) last ∙ ap (λ (ds : List ℕ). front ++ 32 ∷ ds) (hex_both m count value same)

-- ---- lanes

pub record LanesSoFar (lanes : List ℕ) (w : ℕ) (digits : List ℕ) (i : ℕ) : Type 0 where
  pub long : length digits ≡ 2 * w
  pub made : take (2 * i) digits ≡ hex (2 * i) (number_of_lanes (drop (w - i) (take w lanes)))

pub lanes_start : (lanes : List ℕ) (w : ℕ) (digits : List ℕ) → length digits ≡ 2 * w → w ≤ length lanes → LanesSoFar lanes w digits 0
lanes_start lanes w digits long le = record { long = long; made = refl }

take_two : (xs : List ℕ) (n a b : ℕ) → n + 1 < length xs → take (n + 2) (set (set xs n a) (n + 1) b) ≡ take n xs ++ a ∷ b ∷ []
take_two xs n a b lt =
    let two : n + 2 ≡ n + 1 + 1 = omega arith in
    ap (λ (k : ℕ). take k (set (set xs n a) (n + 1) b)) two ∙ take_more_set (set xs n a) (n + 1) b (omega (arith, length-set xs n a))
    ∙ ap (λ (ys : List ℕ). ys ++ b ∷ []) (take_more_set xs n a (omega arith)) ∙ append_assoc (take n xs) (a ∷ []) (b ∷ [])

lane_small : (lanes : List ℕ) (i : ℕ) → get_or lanes i 0 < 256 → (rest : ℕ)
    → ((get_or lanes i 0 + 256 * rest) / 16 / 16 ≡ rest) × ((get_or lanes i 0 + 256 * rest) / 16 % 16 ≡ get_or lanes i 0 / 16 % 16) ×
    ((get_or lanes i 0 + 256 * rest) % 16 ≡ get_or lanes i 0 % 16)
lane_small lanes i lt rest = (omega arith, omega arith, omega arith)

pub lanes_next : (lanes : List ℕ) (w : ℕ) (digits : List ℕ) (i high low : ℕ) → i < w → w ≤ WIDEST → w ≤ length lanes
    → ((k : ℕ) → get_or lanes k 0 < 256) → LanesSoFar lanes w digits i
    → high ≡ digit_char (get_or lanes (w - 1 - i) 0 / 16 % 16) → low ≡ digit_char (get_or lanes (w - 1 - i) 0 % 16)
    → LanesSoFar lanes w (set (set digits (2 * i) high) (2 * i + 1) low) (i + 1)
lanes_next lanes w digits i high low lt few le bytes far h l =
    let k = w - 1 - i in
    let lane = get_or lanes k 0 in
    let rest = number_of_lanes (drop (w - i) (take w lanes)) in
    let long : length (take w lanes) ≡ w = length-take-le w lanes le in
    let within : k < length (take w lanes) = omega (arith, long) in
    let more : suc k ≡ w - i = omega arith in
    let same : get_or (take w lanes) k 0 ≡ lane = get_or-take w lanes k 0 (omega arith) in
    let here : drop k (take w lanes) ≡ lane ∷ drop (w - i) (take w lanes) =
    drop-cons (take w lanes) k 0 within ∙ ap (λ (x : ℕ). x ∷ drop (suc k) (take w lanes)) same ∙ ap (λ (n : ℕ). lane ∷ drop n (take w lanes)) more in
    let less : w - (i + 1) ≡ k = omega arith in
    let number : number_of_lanes (drop (w - (i + 1)) (take w lanes)) ≡ lane + 256 * rest =
    ap (λ (n : ℕ). number_of_lanes (drop n (take w lanes))) less ∙ ap number_of_lanes here in
    let parts = lane_small lanes k (bytes k) rest in
    let twice : 2 * (i + 1) ≡ 2 * i + 2 = omega arith in
    let twice' : 2 * (i + 1) ≡ suc (suc (2 * i)) = omega arith in
    let right : hex (2 * (i + 1)) (lane + 256 * rest) ≡ hex (2 * i) rest ++ high ∷ low ∷ [] =
    ap (λ (n : ℕ). hex n (lane + 256 * rest)) twice'
    ∙ append_assoc (hex (2 * i) ((lane + 256 * rest) / 16 / 16)) (digit_char ((lane + 256 * rest) / 16 % 16) ∷ [])
    (digit_char ((lane + 256 * rest) % 16) ∷ [])
    ∙ ap (λ (n : ℕ). hex (2 * i) n ++ digit_char ((lane + 256 * rest) / 16 % 16) ∷ digit_char ((lane + 256 * rest) % 16) ∷ []) parts.0
    ∙ ap (λ (n : ℕ). hex (2 * i) rest ++ digit_char n ∷ digit_char ((lane + 256 * rest) % 16) ∷ []) parts.1
    ∙ ap (λ (n : ℕ). hex (2 * i) rest ++ digit_char (lane / 16 % 16) ∷ digit_char n ∷ []) parts.2
    ∙ ap (λ (n : ℕ). hex (2 * i) rest ++ n ∷ digit_char (lane % 16) ∷ []) (sym h) ∙ ap (λ (n : ℕ). hex (2 * i) rest ++ high ∷ n ∷ []) (sym l) in
    record {
      long = length-set (set digits (2 * i) high) (2 * i + 1) low ∙ length-set digits (2 * i) high ∙ far.long;
      made = ap (λ (n : ℕ). take n (set (set digits (2 * i) high) (2 * i + 1) low)) twice ∙ take_two digits (2 * i) high low (omega (arith, far.long))
          ∙ ap (λ (xs : List ℕ). xs ++ high ∷ low ∷ []) far.made ∙ sym right ∙ ap (λ (n : ℕ). hex (2 * (i + 1)) n) (sym number);
    }

pub lanes_done : (lanes : List ℕ) (w : ℕ) (digits : List ℕ) (i : ℕ) → w ≤ i → i ≤ w → LanesSoFar lanes w digits i
    → digits ≡ hex (2 * w) (number_of_lanes (take w lanes))
lanes_done lanes w digits i le ge far =
    let same : w ≡ i = omega arith in
    let none : w - i ≡ 0 = omega arith in
    sym (take_all (2 * w) digits (omega (arith, far.long))) ∙ ap (λ (n : ℕ). take (2 * n) digits) same ∙ far.made
    ∙ ap (λ (n : ℕ). hex (2 * i) (number_of_lanes (drop n (take w lanes)))) none
    ∙ ap (λ (n : ℕ). hex (2 * n) (number_of_lanes (take w lanes))) (sym same)

pub two_digits : (w lane rest : ℕ) → lane < 256
    → hex (2 * suc w) (lane + 256 * rest) ≡ hex (2 * w) rest ++ digit_char (lane / 16 % 16) ∷ digit_char (lane % 16) ∷ []
two_digits w lane rest lt =
    let twice : 2 * suc w ≡ suc (suc (2 * w)) = omega arith in
    let up : (lane + 256 * rest) / 16 / 16 ≡ rest = omega arith in
    let high : (lane + 256 * rest) / 16 % 16 ≡ lane / 16 % 16 = omega arith in
    let low : (lane + 256 * rest) % 16 ≡ lane % 16 = omega arith in
    ap (λ (n : ℕ). hex n (lane + 256 * rest)) twice
    ∙ append_assoc (hex (2 * w) ((lane + 256 * rest) / 16 / 16)) (digit_char ((lane + 256 * rest) / 16 % 16) ∷ [])
    (digit_char ((lane + 256 * rest) % 16) ∷ [])
    ∙ ap (λ (n : ℕ). hex (2 * w) n ++ digit_char ((lane + 256 * rest) / 16 % 16) ∷ digit_char ((lane + 256 * rest) % 16) ∷ []) up
    ∙ ap (λ (n : ℕ). hex (2 * w) rest ++ digit_char n ∷ digit_char ((lane + 256 * rest) % 16) ∷ []) high
    ∙ ap (λ (n : ℕ). hex (2 * w) rest ++ digit_char (lane / 16 % 16) ∷ digit_char n ∷ []) low

-- lanes from w on leave no digit
pub hex_take : (lanes : List ℕ) (w : ℕ) → ((k : ℕ) → get_or lanes k 0 < 256)
    → hex (2 * w) (number_of_lanes (take w lanes)) ≡ hex (2 * w) (number_of_lanes lanes)
hex_take lanes zero bytes = refl
hex_take [] (suc w) bytes = refl
hex_take (lane ∷ lanes) (suc w) bytes =
    let lt : lane < 256 = bytes 0 in
    two_digits w lane (number_of_lanes (take w lanes)) lt
    ∙ ap (λ (xs : List ℕ). xs ++ digit_char (lane / 16 % 16) ∷ digit_char (lane % 16) ∷ []) (hex_take lanes w (λ k. bytes (suc k)))
    ∙ sym (two_digits w lane (number_of_lanes lanes) lt)
