-- Whether the next beat opens a message.
use Rattle.std.proofs.Common.{◌≡◌, ◌↔◌, ℕ, List, [], ◌∷◌, refl, sym, ◌∙◌, arith}
use Rattle.std.specs.Prelude.{◌==◌}
use Rattle.tl_settle.proofs.Names.{Rules, BeatOf, left, rest_of, burst_of, count_in, Place, left-zero, equal_true, not_equal}
use Rattle.tl_settle.specs.Books.{IsNext}

module _ {H K : Type 0} (r : Rules H) {w : ℕ} (bs : List (BeatOf H w)) (b : BeatOf H w) (place : Place K H) where
  -- a beat is at the first place if and only if nothing is left of the last message
  pub opens : IsNext r bs b place → (place.index == 0) ≡ (left r w bs == 0)
  opens next = by_rest (rest_of r w bs) (left-zero r w next.handed.handed) next.is_place.index
    where
      by_rest : (rest : List (BeatOf H w)) → (left r w bs ≡ 0) ↔ (rest ≡ []) → place.index ≡ count_in (burst_of r rest) →
          (place.index == 0) ≡ (left r w bs == 0)
      by_rest [] f e = equal_true place.index 0 e ∙ sym (equal_true (left r w bs) 0 (f.1 refl))
      by_rest (x ∷ rest) f e =
          not_equal place.index 0 (λ z. absurd (omega arith)) ∙ sym (not_equal (left r w bs) 0 (λ z. let g : (x ∷ rest) ≡ [] = f.0 z in cc))
