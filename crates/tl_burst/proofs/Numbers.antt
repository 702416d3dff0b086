-- Elements of joined lists, and powers of two that divide one another.
use Rattle.tl_burst.proofs.Names.{◌≡◌, ◌≤◌, ◌<◌, ◌+◌, ◌-◌, ◌*◌, ◌/◌, ◌%◌, ◌^◌, ◌≢◌, ℕ, zero, suc, Some, List, [], ◌∷◌, ◌++◌, length, get_or}
use Rattle.tl_burst.proofs.Names.{replicate, slice_get, refl, sym, ap, subst, ◌∙◌, arith, rules, ⊎_elim, eqb_tells, leb_tells, slice_get_within}
use Rattle.tl_burst.proofs.Names.{get_or_from_slice_get, length_push, mul-div_cancel, IsWidth, bytes_per_beat}
use Rattle.std.proofs.lemmas.Nat.{pow-add, le-div, div-add-mod'}
use Rattle.std.proofs.Math.Seq.{get_or-append_seam}
use Rattle.std.proofs.Math.Pow.{pow_mono, pow-lt}

-- the front of a join
pub slice_get-left : {A : Type 0} (xs ys : List A) (t : ℕ) → t < length xs → slice_get xs t ≡ slice_get (xs ++ ys) t
slice_get-left [] ys t lt = absurd (omega arith)
slice_get-left (x ∷ xs) ys zero lt = refl
slice_get-left (x ∷ xs) ys (suc t) lt = slice_get-left xs ys t (omega arith)

-- a property of each element and of the next one is a property of each element of the longer list
pub each-push : {A : Type 0} (P : ℕ → A → Type 0) (xs : List A) (x : A) → ((t : ℕ) (b : A) → slice_get xs t ≡ Some b → P t b) →
    P (length xs) x → (t : ℕ) (b : A) → slice_get (xs ++ x ∷ []) t ≡ Some b → P t b
each-push {A = A} P xs x old here t b e =
    let within : t < length (xs ++ x ∷ []) = slice_get_within (xs ++ x ∷ []) t b e in
    let len : length (xs ++ x ∷ []) ≡ length xs + 1 = length_push xs x in
    ⊎_elim
    (λ s.
    let at : get_or (xs ++ x ∷ []) t x ≡ b = get_or_from_slice_get (xs ++ x ∷ []) t b x e in
    let seam : get_or (xs ++ x ∷ []) (length xs) x ≡ x = get_or-append_seam xs x [] x in
    let same : x ≡ b = sym seam ∙ ap (λ i. get_or (xs ++ x ∷ []) i x) (sym s.1) ∙ at in
    let Q : A → Type 0 = λ y. P t y in
    let R : ℕ → Type 0 = λ n. P n x in
    subst Q same (subst R (sym s.1) here))
    (λ s. let ne : t ≢ length xs = s.1 in
    let lt : t < length xs = omega arith in
    old t b (slice_get-left xs (x ∷ []) t lt ∙ e))
    (eqb_tells t (length xs))

-- the bytes of a beat are a power of two
pub per-power : (size w : ℕ) → IsWidth w → (k : ℕ) × (bytes_per_beat size w ≡ 2 ^ k)
per-power size w (k, h, e) =
    ⊎_elim
    (λ s. (k, let le : 2 ^ k ≤ 2 ^ size = pow_mono s.1 in omega arith))
    (λ s. (size, let lt : 2 ^ size < 2 ^ k = pow-lt s.1 in omega arith))
    (leb_tells k size)

-- a smaller power of two divides a greater one
pub powers-divide : (a b p q : ℕ) → p ≡ 2 ^ a → q ≡ 2 ^ b → q ≤ p → p ≡ (p / q) * q
powers-divide a b p q ep eq le =
    ⊎_elim
    (λ s.
    let d : a - b + b ≡ a = omega arith in
    let e : p ≡ 2 ^ (a - b) * q = ep ∙ ap (λ x. 2 ^ x) (sym d) ∙ pow-add 2 (a - b) b ∙ ap (λ x. 2 ^ (a - b) * x) (sym eq) in
    let pos : 0 < 2 ^ b = search rules in
    let posq : 0 < q = omega arith in
    let f : p / q ≡ 2 ^ (a - b) = ap (λ x. x / q) e ∙ mul-div_cancel (2 ^ (a - b)) posq in
    e ∙ ap (λ x. x * q) (sym f))
    (λ s. let lt : 2 ^ a < 2 ^ b = pow-lt s.1 in absurd (omega arith))
    (leb_tells b a)

-- every read of zeros is zero
pub zeros : (n i : ℕ) → get_or {A = ℕ} (replicate n 0) i 0 ≡ 0
zeros zero i = refl
zeros (suc n) zero = refl
zeros (suc n) (suc i) = zeros n i

-- quotients go up
pub div-up : (a b p : ℕ) → 0 < p → a ≤ b → a / p ≤ b / p
div-up a b p pos le = let s : a / p * p + a % p ≡ a = div-add-mod' a p in le-div (a / p) b p pos (omega arith)
