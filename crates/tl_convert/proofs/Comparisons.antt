-- Comparisons of numbers and tests of options, and their meaning.
use Rattle.tl_convert.proofs.Names.{◌≡◌, ◌≤◌, ◌<◌, ◌≢◌, ℕ, zero, suc, Bool, true, false, Option, None, Some, List, [], ◌∷◌, ◌++◌, length, refl, arith}
use Rattle.tl_convert.proofs.Names.{zero-le, nat_tests, nat_lt, ◌==◌, slice_get, option_map_or, is_some}

pub equal_true : (x y : ℕ) → x ≡ y → (x == y) ≡ true
equal_true x y e = grind (arith, nat_tests)

pub true_equal : (x y : ℕ) → (x == y) ≡ true → x ≡ y
true_equal x y e = grind (arith, nat_tests)

pub not_equal : (x y : ℕ) → x ≢ y → (x == y) ≡ false
not_equal x y e = grind (arith, nat_tests)

pub false_apart : (x y : ℕ) → (x == y) ≡ false → x ≢ y
false_apart x y e = grind (arith, nat_tests)

pub less_true : (x y : ℕ) → x < y → nat_lt x y ≡ true
less_true x y e = grind (arith, nat_tests)

pub true_less : (x y : ℕ) → nat_lt x y ≡ true → x < y
true_less x y e = grind (arith, nat_tests)

pub not_less_false : (x y : ℕ) → y ≤ x → nat_lt x y ≡ false
not_less_false x y e = grind (arith, nat_tests)

-- a test of an element that a list may have
pub map_true : {X : Type 0} (f : X → Bool) (o : Option X) → option_map_or f o false ≡ true → (x : X) × (o ≡ Some x) × (f x ≡ true)
map_true f None e = cc
map_true f (Some x) e = (x, refl, e)

pub map_imp : {X : Type 0} (f g : X → Bool) (o : Option X) → ((x : X) → f x ≡ true → g x ≡ true) → option_map_or f o false ≡ true →
    option_map_or g o false ≡ true
map_imp f g None h e = e
map_imp f g (Some x) h e = h x e

pub some_not_none : {X : Type 0} (o : Option X) → is_some o ≡ false → o ≡ None
some_not_none None e = refl
some_not_none (Some x) e = cc

pub is_there : {X : Type 0} (o : Option X) → is_some o ≡ true → (x : X) × (o ≡ Some x)
is_there None e = cc
is_there (Some x) e = (x, refl)

pub there_is : {X : Type 0} (xs : List X) (k : ℕ) → k < length xs → (x : X) × (slice_get xs k ≡ Some x)
there_is [] k e = absurd (omega arith)
there_is (x ∷ xs) zero e = (x, refl)
there_is (x ∷ xs) (suc k) e = there_is xs k (omega arith)

pub none_past : {X : Type 0} (xs : List X) (k : ℕ) → slice_get xs k ≡ None → length xs ≤ k
none_past [] k e = zero-le
none_past (x ∷ xs) zero e = cc
none_past (x ∷ xs) (suc k) e = let h : length xs ≤ k = none_past xs k e in omega arith

-- the last element of a list
pub seam : {X : Type 0} (xs : List X) (y : X) → slice_get (xs ++ y ∷ []) (length xs) ≡ Some y
seam [] y = refl
seam (x ∷ xs) y = seam xs y
