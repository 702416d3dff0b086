-- The accepted beats are the longest first part of a list that is handed.
use Rattle.tl_convert.proofs.Names.{◌≡◌, ◌⊎◌, ◌++◌, ℕ, suc, cond, Option, None, Some, List, [], ◌∷◌, slice_get, refl, sym, ap, subst, ◌∙◌, ⊎_elim}
use Rattle.tl_convert.proofs.Names.{inl, inr, append_assoc, append-nil, is_none, Rules, IsBeat, BeatOf, IsWidth, IsHanded, nothing, fault_after}
use Rattle.tl_convert.proofs.Names.{ChannelLaws, faults-exact, admitted-none, accepted_after, IsLongest}
use mathlib.Core.List.{IsPrefix}
use Rattle.tl_msg.specs.declared.fault.BeatFault.{BeatFault}
use Rattle.tl_burst.proofs.Fronts.{front-handed}

pub none-or-some : (o : Option BeatFault) → (o ≡ None) ⊎ ((f : BeatFault) × (o ≡ Some f))
none-or-some None = inl refl
none-or-some (Some f) = inr (f, refl)

module _ {H : Type 0} (r : Rules H) {w : ℕ} where
  -- the beats of `seen` with no others are the empty first part
  pub accepted-first : (seen bs : List (BeatOf H w)) → IsPrefix (accepted_after r seen bs) bs
  accepted-first seen [] = ([], refl)
  accepted-first seen (b ∷ bs) = ⊎_elim
      (λ e.
      let k = accepted-first (seen ++ b ∷ []) bs in
      let P : Option BeatFault → Type 0 = λ o. IsPrefix (cond (is_none o) (b ∷ accepted_after r (seen ++ b ∷ []) bs) []) (b ∷ bs) in
      subst P (sym e) (k.0, ap (λ q. b ∷ q) k.1))
      (λ (f, e).
      let P : Option BeatFault → Type 0 = λ o. IsPrefix (cond (is_none o) (b ∷ accepted_after r (seen ++ b ∷ []) bs) []) (b ∷ bs) in
      subst P (sym e) (b ∷ bs, refl))
      (none-or-some (fault_after r seen b))

  module _ (ww : IsWidth w) (laws : ChannelLaws r) where
    pub accepted-handed : (seen bs : List (BeatOf H w)) → ((i : ℕ) (b : BeatOf H w) → slice_get bs i ≡ Some b → IsBeat r b) → IsHanded r seen →
        IsHanded r (seen ++ accepted_after r seen bs)
    accepted-handed seen [] beats before = (let P : List (BeatOf H w) → Type 0 = λ q. IsHanded r q in subst P (sym (append-nil seen)) before)
    accepted-handed seen (b ∷ bs) beats before = ⊎_elim
        (λ e.
        let after : IsHanded r (seen ++ b ∷ []) = (faults-exact r w ww laws seen b before (beats 0 b refl)).0 e in
        let more : IsHanded r ((seen ++ b ∷ []) ++ accepted_after r (seen ++ b ∷ []) bs) =
        accepted-handed (seen ++ b ∷ []) bs (λ i x q. beats (suc i) x q) after in
        let Q : List (BeatOf H w) → Type 0 = λ q. IsHanded r q in
        let P : Option BeatFault → Type 0 = λ o. IsHanded r (seen ++ cond (is_none o) (b ∷ accepted_after r (seen ++ b ∷ []) bs) []) in
        subst P (sym e) (subst Q (append_assoc seen (b ∷ []) (accepted_after r (seen ++ b ∷ []) bs)) more))
        (λ (f, e).
        let Q : List (BeatOf H w) → Type 0 = λ q. IsHanded r q in
        let P : Option BeatFault → Type 0 = λ o. IsHanded r (seen ++ cond (is_none o) (b ∷ accepted_after r (seen ++ b ∷ []) bs) []) in
        subst P (sym e) (subst Q (sym (append-nil seen)) before))
        (none-or-some (fault_after r seen b))

    pub accepted-longest : (seen bs xs more : List (BeatOf H w)) → xs ++ more ≡ bs → IsHanded r (seen ++ xs) → IsPrefix xs (accepted_after r seen bs)
    accepted-longest seen bs [] more e handed = (accepted_after r seen bs, refl)
    accepted-longest seen [] (x ∷ xs) more e handed = absurd (cc)
    accepted-longest seen (b ∷ bs) (x ∷ xs) more e handed =
        let same : x ≡ b = cc in
        let tail : xs ++ more ≡ bs = cc in
        let P : List (BeatOf H w) → Type 0 = λ q. IsHanded r q in
        let Q : BeatOf H w → Type 0 = λ y. IsHanded r (seen ++ y ∷ xs) in
        let all : IsHanded r ((seen ++ b ∷ []) ++ xs) = subst P (sym (append_assoc seen (b ∷ []) xs)) (subst Q same handed) in
        let after : IsHanded r (seen ++ b ∷ []) = front-handed r w (seen ++ b ∷ []) xs all in
        let before : IsHanded r seen = front-handed r w seen (b ∷ []) after in
        let clean : fault_after r seen b ≡ None = admitted-none r w ww laws seen b before after in
        let k = accepted-longest (seen ++ b ∷ []) bs xs more tail all in
        let R : Option BeatFault → Type 0 = λ o. IsPrefix (x ∷ xs) (cond (is_none o) (b ∷ accepted_after r (seen ++ b ∷ []) bs) []) in
        subst R (sym clean) (k.0, ap (λ y. y ∷ (xs ++ k.0)) same ∙ ap (λ q. b ∷ q) k.1)

    pub accepted-is : (bs : List (BeatOf H w)) → ((i : ℕ) (b : BeatOf H w) → slice_get bs i ≡ Some b → IsBeat r b) → IsLongest r bs
    accepted-is bs beats =
        let P : List (BeatOf H w) → Type 0 = λ q. IsHanded r q in
        let none_yet : P [] = record { homes = []; messages = []; rest = []; handed = nothing } in
        record {
          first = accepted-first [] bs;
          handed = accepted-handed [] bs beats none_yet;
          longest = λ xs pre handed. accepted-longest [] bs xs pre.0 pre.1 handed;
        }
