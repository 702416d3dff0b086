-- The digits with which a text begins, and the number that they represent.
use Rattle.std.proofs.Common.{◌≡◌, ◌≤◌, ◌<◌, ◌+◌, ◌-◌, ◌*◌, ◌^◌, ◌++◌, ◌∷◌, [], ℕ, zero, suc, Bool, true, false, List, cond, length, get_or, take, replicate}
use Rattle.std.proofs.Common.{arith, sym, subst, inl, inr, length-append, refl}
use Rattle.std.proofs.Math.Nat.{pow-le-pow_right}
use Rattle.std.proofs.lemmas.Bool.{cases_eq}
use Rattle.std.proofs.lemmas.Int.Digits.{digits_value-lt, digits_value_more}
use Rattle.std.proofs.lemmas.List.{length-replicate}
use Rattle.std.proofs.lemmas.List.Sums.{prefix_len_passes, prefix_len_stops, take_while-cons}
use Rattle.std.proofs.lemmas.Str.{digit_value_digit}
use Rattle.std.proofs.lemmas.Str.Parse.{digit_at}
use Rattle.std.specs.Char.{is_ascii_digit, digit_value}
use Rattle.std.specs.List.{prefix_len, take_while}
use Rattle.std.specs.Str.Parse.{AllDigits, digits_value}
use Rattle.tl_times.specs.Inner.Digits.{AreFewDigits}
use Rattle.tl_times.specs.Time.{padded}

-- one more item of the prefix
pub one_more : {X : Type 0} (p : X → Bool) (xs : List X) (at : ℕ) (d : X) → at ≤ prefix_len p xs → at < length xs → p (get_or xs at d) ≡ true
    → at + 1 ≤ prefix_len p xs
one_more p xs at d few within is = elim (cases_eq at (prefix_len p xs)) [
  | inl e ↦
      let stops : p (get_or xs (prefix_len p xs) d) ≡ false = prefix_len_stops p xs d (omega (arith, e)) in
      let passes : p (get_or xs (prefix_len p xs) d) ≡ true = subst (λ k. p (get_or xs k d) ≡ true) e is in
      absurd cc
  | inr ne ↦ omega (arith, few, ne)
]

-- the prefix ends here
pub ends_here : {X : Type 0} (p : X → Bool) (xs : List X) (at : ℕ) (d : X) → at ≤ prefix_len p xs → p (get_or xs at d) ≡ false
    → at ≡ prefix_len p xs
ends_here p xs at d few is = elim (cases_eq at (prefix_len p xs)) [
  | inl e ↦ e
  | inr ne ↦
      let passes : p (get_or xs at d) ≡ true = prefix_len_passes p xs at d (omega (arith, few, ne)) in
      absurd cc
]

digit : (byte : ℕ) → is_ascii_digit byte ≡ true → digit_value byte < 10
digit byte is = grind arith

-- the digits with which a text begins are digits
pub begins_with_digits : (text : List ℕ) → AllDigits 10 (take_while is_ascii_digit text)
begins_with_digits [] = tt
begins_with_digits (byte ∷ text) = subst (AllDigits 10) (sym (take_while-cons is_ascii_digit byte text)) (of (begins_with_digits text) (is_ascii_digit byte) refl)
  where
    of : AllDigits 10 (take_while is_ascii_digit text) → (b : Bool) → is_ascii_digit byte ≡ b
        → AllDigits 10 (cond b (byte ∷ take_while is_ascii_digit text) [])
    of more true is = (digit byte is, more)
    of more false is = tt

-- the number of at most 18 digits
pub is_small : (digits : List ℕ) → AreFewDigits digits → digits_value 10 digits < 1000000000000000000
is_small digits few =
    let below : digits_value 10 digits < 10 ^ length digits = digits_value-lt 10 digits few.0 in
    let most : 10 ^ length digits ≤ 10 ^ 18 = pow-le-pow_right (omega arith) few.1 in
    omega (arith, below, most)

-- one more digit of a number
pub one_digit_more : (digits : List ℕ) (at : ℕ) → AllDigits 10 digits → at < length digits
    → digits_value 10 (take at digits) * 10 + (get_or digits at 0 - 48) ≡ digits_value 10 (take (at + 1) digits)
one_digit_more digits at all within =
    let value : digit_value (get_or digits at 0) + 48 ≡ get_or digits at 0 = digit_value_digit (get_or digits at 0) (digit_at digits at all within) in
    omega (arith, digits_value_more 10 digits at within, value)

append_digits : (xs ys : List ℕ) → AllDigits 10 xs → AllDigits 10 ys → AllDigits 10 (xs ++ ys)
append_digits [] ys some more = more
append_digits (x ∷ xs) ys some more = (some.0, append_digits xs ys some.1 more)

zeros : (n : ℕ) → AllDigits 10 (replicate n 48)
zeros zero = tt
zeros (suc n) = (omega arith, zeros n)

-- digits with zeros after them
pub padded_digits : (digits : List ℕ) → AreFewDigits digits → AreFewDigits (padded digits)
padded_digits digits few =
    let zero_count : ℕ = 18 - length digits in
    let code : ℕ = 48 in (
      append_digits digits (replicate zero_count code) few.0 (zeros zero_count),
      omega (arith, few.1, length-append digits (replicate zero_count code), length-replicate zero_count code),
    )
