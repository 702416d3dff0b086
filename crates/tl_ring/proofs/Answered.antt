-- Facts about results, and about empty lists.
use Rattle.tl_ring.proofs.Names.{◌≡◌, ◌≤◌, ◌<◌, ◌∷◌, None, Some, Result, Ok, Err, IsOk, OnOk, OnErr, List, [], All, length}
use Rattle.tl_ring.proofs.Names.{drop, slice_get, ◌⊎◌, ◌||◌, Bool, true, false, inl, inr, get_or, refl, ap, arith}

-- every item of an empty list has any property
pub all_of_none : {A : Type 0} (P : A → Type 0) (xs : List A) → xs ≡ [] → All P xs
all_of_none P [] none = λ k d within. absurd (omega arith)
all_of_none P (x ∷ xs) none = absurd (cc)

-- a list with a first item is not empty
pub some_first : {A : Type 0} (xs : List A) (x : A) → Some x ≡ slice_get xs 0 → 1 ≤ length xs
some_first [] x e = absurd (cc)
some_first (y ∷ ys) x e = omega arith

-- and a list without one is unchanged without its first item
pub none_first : {A : Type 0} (xs : List A) → None ≡ slice_get xs 0 → xs ≡ drop 1 xs
none_first [] e = refl
none_first (y ∷ ys) e = absurd (cc)

-- a list of one item is that item
pub only_item : {A : Type 0} (xs : List A) (x : A) → 1 ≤ length xs → length xs < 2 → x ≡ get_or xs 0 x → x ∷ [] ≡ xs
only_item [] x some one e = absurd (omega arith)
only_item (y ∷ []) x some one e = ap (λ z. z ∷ []) e
only_item (y ∷ (z ∷ zs)) x some one e = absurd (omega arith)

-- if one of two results must be true, the first is, or the second
pub one_of_two : (a b : Bool) → (a || b) ≡ true → (a ≡ true) ⊎ (b ≡ true)
one_of_two true b one = inl refl
one_of_two false b one = inr one

-- a property carries over in a result that is Ok, and in one that is not
pub on_ok : {A E : Type 0} {P Q : Type 0} (answer : Result A E) → (IsOk answer → P → Q) → OnOk answer P → OnOk answer Q
on_ok (Ok a) goes p = goes refl p
on_ok (Err e) goes p = tt

pub on_err : {A E : Type 0} {P Q : Type 0} (answer : Result A E) → (P → Q) → OnErr answer P → OnErr answer Q
on_err (Ok a) goes p = tt
on_err (Err e) goes p = goes p
