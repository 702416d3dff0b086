-- The first beats of a list that is handed are handed too.
use Rattle.tl_burst.proofs.Names.{◌≡◌, ◌≢◌, ℕ, List, [], ◌∷◌, ◌++◌, refl, sym, ap, subst, ◌∙◌, ⊎_elim, append_assoc, append-nil, Rules, BeatOf}
use Rattle.tl_burst.proofs.Names.{Message, IsLawful, Spells, Handed, nothing, begun, whole, IsHanded, same_from_push}
use Rattle.tl_burst.proofs.HandedSteps.{snoc-some}
use Rattle.tl_burst.proofs.Admitted.{last-cases}

module _ {H : Type 0} (r : Rules H) (w : ℕ) where
  -- the first beats of a message
  of-message : (m : Message H) (bs more : List (BeatOf H w)) → IsLawful r m → Spells r m w (bs ++ more) → more ≢ [] → IsHanded r bs
  of-message m [] more l s ne = record { homes = []; messages = []; rest = []; handed = nothing }
  of-message m (b ∷ bs) more l s ne = record { homes = m.home ∷ []; messages = []; rest = b ∷ bs; handed = begun m (b ∷ bs) more l s (λ q. cc) ne }

  front-of : {y : List (BeatOf H w)} {homes : List ℕ} {ms : List (Message H)} {rest : List (BeatOf H w)} →
      Handed r w y homes ms rest → (bs : List (BeatOf H w)) (b : BeatOf H w) → y ≡ bs ++ b ∷ [] → IsHanded r bs
  front-of nothing bs b e = absurd (snoc-some bs b (sym e))
  front-of (begun m rest more l s n1 n2) bs b e =
      let P : List (BeatOf H w) → Type 0 = λ xs. Spells r m w xs in
      of-message m bs (b ∷ more) l (subst P (ap (λ xs. xs ++ more) e ∙ append_assoc bs (b ∷ []) more) s) (λ q. cc)
  front-of (whole m cs others homes ms rest l s h) bs b e = ⊎_elim
      (λ none_of.
      let P : List (BeatOf H w) → Type 0 = λ xs. Spells r m w xs in
      of-message m bs (b ∷ []) l (subst P (sym (append-nil cs) ∙ ap (λ xs. cs ++ xs) (sym none_of) ∙ e) s) (λ q. cc))
      (λ (front, x, f).
      let g : (cs ++ front) ++ x ∷ [] ≡ bs ++ b ∷ [] = append_assoc cs front (x ∷ []) ∙ ap (λ xs. cs ++ xs) (sym f) ∙ e in
      let same = same_from_push (cs ++ front) bs x b g in
      let o : IsHanded r front = front-of h front x f in
      let P : List (BeatOf H w) → Type 0 = λ xs. IsHanded r xs in
      subst P same.0 (record {
        homes = m.home ∷ o.homes;
        messages = m ∷ o.messages;
        rest = o.rest;
        handed = whole m cs front o.homes o.messages o.rest l s o.handed;
      }))
      (last-cases others)

  pub front-handed : (bs cs : List (BeatOf H w)) → IsHanded r (bs ++ cs) → IsHanded r bs
  front-handed bs [] h = let P : List (BeatOf H w) → Type 0 = λ xs. IsHanded r xs in subst P (append-nil bs) h
  front-handed bs (c ∷ cs) h =
      let P : List (BeatOf H w) → Type 0 = λ xs. IsHanded r xs in
      let one : IsHanded r (bs ++ c ∷ []) = front-handed (bs ++ c ∷ []) cs (subst P (sym (append_assoc bs (c ∷ []) cs)) h) in
      front-of one.handed bs c refl
