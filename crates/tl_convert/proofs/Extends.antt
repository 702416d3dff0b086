-- Lists that begin with another list, and their lengths.
use Rattle.tl_convert.proofs.Names.{◌≡◌, ◌≤◌, ◌<◌, ◌+◌, ◌⊎◌, ℕ, zero, suc, Bool, true, false, cond, None, Some, List, [], ◌∷◌, ◌++◌, take, drop, refl}
use Rattle.tl_convert.proofs.Names.{ap, subst, arith, append-nil, append_assoc, ⊎_elim, slice_get, count_by, take-take, take-append-drop}
use Rattle.std.proofs.lemmas.List.Sums.{sum_by-append}
use mathlib.Core.List.{IsPrefix}

-- ys begins with xs
pub data Extends {A : Type 0} : List A → List A → Type 0 where
  more : (xs rest : List A) → Extends xs (xs ++ rest)

pub of_prefix : {A : Type 0} (xs ys : List A) → IsPrefix xs ys → Extends xs ys
of_prefix xs ys (rest, e) = subst (λ zs. Extends xs zs) e (more xs rest)

pub extends-refl : {A : Type 0} (xs : List A) → Extends xs xs
extends-refl xs = rw append-nil at (more xs [])

pub extends-same : {A : Type 0} {xs ys : List A} → xs ≡ ys → Extends xs ys
extends-same {xs = xs} e = subst (λ zs. Extends xs zs) e (extends-refl xs)

pub extends-cons : {A : Type 0} {xs ys : List A} (x : A) → Extends xs ys → Extends (x ∷ xs) (x ∷ ys)
extends-cons x (more xs rest) = more (x ∷ xs) rest

pub extends-front : {A : Type 0} (us : List A) {xs ys : List A} → Extends xs ys → Extends (us ++ xs) (us ++ ys)
extends-front us (more xs rest) = rw (← append_assoc) (more (us ++ xs) rest)

pub extends-on : {A : Type 0} {xs ys zs : List A} → Extends xs ys → Extends ys zs → Extends xs zs
extends-on (more xs rest) f = on_from xs rest f refl
  where
    on_from : {X : Type 0} (xs rest : List X) {us zs : List X} → Extends us zs → us ≡ xs ++ rest → Extends xs zs
    on_from xs rest (more us others) e = rw (e, append_assoc) (more xs (rest ++ others))

-- the first items of a list, with others after it
pub take-some : {A : Type 0} (n : ℕ) (xs ys : List A) → Extends (take n xs) (xs ++ ys)
take-some n xs ys =
    subst (λ zs. Extends (take n xs) (zs ++ ys)) (take-append-drop n xs)
    (rw append_assoc (more (take n xs) (drop n xs ++ ys)))

-- the first k items go on from the first i
pub take-grows : {A : Type 0} (i k : ℕ) (xs : List A) → i ≤ k → Extends (take i xs) (take k xs)
take-grows i k xs h =
    subst (λ ys. Extends ys (take k xs)) (take-take i k xs h)
    (subst (λ ys. Extends (take i (take k xs)) ys) (take-append-drop i (take k xs)) (more (take i (take k xs)) (drop i (take k xs))))

-- one item more, or none at the end of the list
pub take-next : {A : Type 0} (xs : List A) (i : ℕ) (x : A) → slice_get xs i ≡ Some x → take (suc i) xs ≡ take i xs ++ x ∷ []
take-next [] i x e = cc
take-next (y ∷ xs) zero x e = let h : y ≡ x = cc in ap (λ q. q ∷ []) h
take-next (y ∷ xs) (suc i) x e = ap (λ q. y ∷ q) (take-next xs i x e)

pub take-past : {A : Type 0} (xs : List A) (i : ℕ) → slice_get xs i ≡ None → take (suc i) xs ≡ take i xs
take-past [] zero e = refl
take-past [] (suc i) e = refl
take-past (y ∷ xs) zero e = cc
take-past (y ∷ xs) (suc i) e = ap (λ q. y ∷ q) (take-past xs i e)

-- if a list grows at each step below n, it has grown from i to n
pub grows : {A : Type 0} (at : ℕ → List A) (i n : ℕ) → i ≤ n → ((k : ℕ) → k < n → Extends (at k) (at (suc k))) → Extends (at i) (at n)
grows at i zero l each = let e : i ≡ 0 = omega arith in extends-same (ap at e)
grows at i (suc n) l each =
    ⊎_elim (λ (e : i ≡ suc n). extends-same (ap at e))
    (λ (less : i ≤ n). extends-on (grows at i n less (λ k m. each k (omega arith))) (each n (omega arith)))
    (split i n l)
  where
    split : (i n : ℕ) → i ≤ suc n → (i ≡ suc n) ⊎ (i ≤ n)
    split i n l = grind arith

pub count_by-append : {A : Type 0} (p : A → Bool) (xs ys : List A) → count_by p (xs ++ ys) ≡ count_by p xs + count_by p ys
count_by-append p xs ys = sum_by-append (λ x. cond (p x) 1 0) xs ys

pub count-grows : {A : Type 0} (p : A → Bool) {xs ys : List A} → Extends xs ys → count_by p xs ≤ count_by p ys
count-grows p (more xs rest) = let e = count_by-append p xs rest in omega arith

-- a property of both branches of a test
pub both : {X : Type 0} (P : X → Type 0) (t : Bool) {x y : X} → (t ≡ true → P x) → (t ≡ false → P y) → P (cond t x y)
both P true yes_x no_y = yes_x refl
both P false yes_x no_y = no_y refl

pub both-two : {X Y : Type 0} (P : X → Y → Type 0) (t : Bool) {x x' : X} {y y' : Y} → P x y → P x' y' → P (cond t x x') (cond t y y')
both-two P true yes_x no_x = yes_x
both-two P false yes_x no_x = no_x

pub both-three : {X Y Z : Type 0} (P : X → Y → Z → Type 0) (t : Bool) {x x' : X} {y y' : Y} {z z' : Z} → P x y z → P x' y' z' →
    P (cond t x x') (cond t y y') (cond t z z')
both-three P true yes_x no_x = yes_x
both-three P false yes_x no_x = no_x

pub both-four : {X Y Z U : Type 0} (P : X → Y → Z → U → Type 0) (t : Bool) {x x' : X} {y y' : Y} {z z' : Z} {u u' : U} → P x y z u → P x' y' z' u' →
    P (cond t x x') (cond t y y') (cond t z z') (cond t u u')
both-four P true yes_x no_x = yes_x
both-four P false yes_x no_x = no_x
