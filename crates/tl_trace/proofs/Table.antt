-- A table of bytes against a definition: one walk over the table.
use Rattle.tl_trace.proofs.Names.{◌≡◌, ℕ, zero, suc, ◌+◌, ◌*◌, ◌/◌, ◌%◌, ◌<◌, Bool, true, cond, ◌&&◌, nat_eq, get_or, length, List, [], ◌∷◌, refl}
use Rattle.tl_trace.proofs.Names.{ap, ◌∙◌}
use Rattle.tl_trace.proofs.Names.{arith, eqb-true, and_parts, digit_char}
use Rattle.tl_trace.specs.declared.text.TheConstants.{PAIRS}

-- the items from a place on are those of the definition
unfoldable pub agree_from : (f : ℕ → ℕ) → ℕ → List ℕ → Bool
agree_from f i [] = true
agree_from f i (x ∷ xs) = nat_eq x (f i) && agree_from f (suc i) xs

agree_in : (f : ℕ → ℕ) (i : ℕ) (xs : List ℕ) → agree_from f i xs ≡ true → (k : ℕ) → k < length xs → get_or xs k 0 ≡ f (i + k)
unfolding agree_from
agree_in f i [] h k lt = absurd (omega (arith, lt))
agree_in f i (x ∷ xs) h zero lt =
    let here : i ≡ i + 0 = omega arith in eqb-true _ _ (and_parts (nat_eq x (f i)) (agree_from f (suc i) xs) h).0 ∙ ap f here
agree_in f i (x ∷ xs) h (suc k) lt =
    let next : suc i + k ≡ i + suc k = omega arith in
    agree_in f (suc i) xs (and_parts (nat_eq x (f i)) (agree_from f (suc i) xs) h).1 k (omega (arith, lt)) ∙ ap f next

pub agree_at : (f : ℕ → ℕ) (xs : List ℕ) (n : ℕ) → length xs ≡ n → agree_from f 0 xs ≡ true → (k : ℕ) → k < n → get_or xs k 0 ≡ f k
agree_at f xs n long h k lt =
    let first : 0 + k ≡ k = omega arith in agree_in f 0 xs h k (omega (arith, long, lt)) ∙ ap f first

-- the digit at a place of the table of pairs
abbrev pair_digit : ℕ → ℕ
pair_digit j = cond (nat_eq (j % 2) 0) (digit_char (j / 2 / 16 % 16)) (digit_char (j / 2 % 16))

pairs_agree : (j : ℕ) → j < 512 → get_or PAIRS j 0 ≡ pair_digit j
unfolding agree_from
pairs_agree j lt = agree_at pair_digit PAIRS 512 refl refl j lt

pub first_of_pair : (k : ℕ) → k < 256 → get_or PAIRS (2 * k) 0 ≡ digit_char (k / 16 % 16)
first_of_pair k lt =
    let even : (2 * k) % 2 ≡ 0 = omega arith in
    let half : 2 * k / 2 ≡ k = omega arith in
    pairs_agree (2 * k) (omega (arith, lt)) ∙
    ap (λ r. cond (nat_eq r 0) (digit_char (2 * k / 2 / 16 % 16)) (digit_char (2 * k / 2 % 16))) even ∙ ap (λ h. digit_char (h / 16 % 16)) half

pub second_of_pair : (k : ℕ) → k < 256 → get_or PAIRS (2 * k + 1) 0 ≡ digit_char (k % 16)
second_of_pair k lt =
    let odd : (2 * k + 1) % 2 ≡ 1 = omega arith in
    let half : (2 * k + 1) / 2 ≡ k = omega arith in
    pairs_agree (2 * k + 1) (omega (arith, lt)) ∙
    ap (λ r. cond (nat_eq r 0) (digit_char ((2 * k + 1) / 2 / 16 % 16)) (digit_char ((2 * k + 1) / 2 % 16))) odd ∙ ap (λ h. digit_char (h % 16)) half
