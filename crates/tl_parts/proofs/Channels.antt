-- The items of five channels.
use Rattle.std.proofs.Common.{◌≡◌, [], ◌∷◌, refl}

-- five items, one after the other
pub five-same : {A : Type 0} {p q r s t p' q' r' s' t' : A} → p ≡ p' → q ≡ q' → r ≡ r' → s ≡ s' → t ≡ t' →
    p ∷ q ∷ r ∷ s ∷ t ∷ [] ≡ p' ∷ q' ∷ r' ∷ s' ∷ t' ∷ []
five-same f g h i j = rw (f, g, h, i, j) refl
