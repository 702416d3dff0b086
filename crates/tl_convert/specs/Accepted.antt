-- The first beats of a list that are accepted.
use Rattle.std.specs.Prelude.{◌≡◌, cond, is_none, List, [], ◌∷◌, ◌++◌, slice_get, ℕ, Some}
use mathlib.Core.List.{IsPrefix}
use Rattle.tl_msg.specs.Rules.{Rules}
use Rattle.tl_msg.specs.Beats.{IsBeat}
use Rattle.tl_msg.specs.declared.beat.BeatOf.{BeatOf}
use Rattle.tl_burst.specs.Handing.{IsHanded, fault_after}

module _ {H : Type 0} (r : Rules H) where
  -- bs comes after the beats of `seen`: the beats of bs before the first one that has a fault after those before it
  abbrev pub accepted_after : {w : ℕ} → (seen bs : List (BeatOf H w)) → List (BeatOf H w)
  accepted_after seen [] = []
  accepted_after seen (b ∷ bs) = cond (is_none (fault_after r seen b)) (b ∷ accepted_after (seen ++ b ∷ []) bs) []

  abbrev pub accepted_of : {w : ℕ} → List (BeatOf H w) → List (BeatOf H w)
  accepted_of bs = accepted_after [] bs

  -- they are the longest first part of the list that is handed
  pub record IsLongest {w : ℕ} (bs : List (BeatOf H w)) : Type 0 where
    pub first : IsPrefix (accepted_of bs) bs
    pub handed : IsHanded r (accepted_of bs)
    pub longest : (xs : List (BeatOf H w)) → IsPrefix xs bs → IsHanded r xs → IsPrefix xs (accepted_of bs)

  abbrev pub AcceptedIsLongest : (w : ℕ) → Type 0
  AcceptedIsLongest w = (bs : List (BeatOf H w)) → ((i : ℕ) (b : BeatOf H w) → slice_get bs i ≡ Some b → IsBeat r b) → IsLongest bs
