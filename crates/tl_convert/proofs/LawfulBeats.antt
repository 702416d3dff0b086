-- Each beat of a list that is handed is lawful by itself.
use Rattle.tl_convert.proofs.Names.{◌≡◌, ◌+◌, ◌++◌, ℕ, suc, Some, List, [], ◌∷◌, length, get_or, slice_get, All, sym, ap, subst, ◌∙◌, arith}
use Rattle.tl_convert.proofs.Names.{length-append, append-nil, slice_get-get_or, IsWidth, Rules, IsLawfulBeat, BeatOf, Message, IsLawful, beats_of}
use Rattle.tl_convert.proofs.Names.{Spells, Handed, nothing, begun, whole, slice_get-left, ChannelLaws, accepts-none}
use Rattle.std.proofs.lemmas.List.Elements.{All-append}
use Rattle.tl_burst.proofs.SpelledRun.{Fitting, fitting-of}

-- a property of all of a list is a property of its last part
pub all-right : {A : Type 0} (P : A → Type 0) (xs ys : List A) → All P (xs ++ ys) → All P ys
all-right P [] ys all = all
all-right P (x ∷ xs) ys all = all-right P xs ys (λ k d lt. all (suc k) d (omega arith))

module _ {H : Type 0} (r : Rules H) (w : ℕ) (ww : IsWidth w) (laws : ChannelLaws r) where
  -- a beat of a lawful message
  spelled-lawful : (m : Message H) (bs more : List (BeatOf H w)) → IsLawful r m → Spells r m w (bs ++ more) → All (λ b. IsLawfulBeat r b) bs
  spelled-lawful m bs more lawful spells k d lt =
      let b : BeatOf H w = get_or bs k d in
      let at : slice_get (bs ++ more) k ≡ Some (get_or bs k d) = sym (slice_get-left bs more k lt) ∙ slice_get-get_or bs k d lt in
      let n : length (bs ++ more) ≡ length bs + length more = length-append bs more in
      let count : length (bs ++ more) ≡ beats_of r m.head w = spells.count in
      let fit : Fitting r m.head m.home w k (get_or bs k d) =
      fitting-of r w ww laws.masked_address laws.partial_carries m k (get_or bs k d) lawful (omega arith) (spells.each k (get_or bs k d) at) in
      accepts-none r w ww laws [] (get_or bs k d) (record {
        held = λ h e. absurd (cc);
        lawful = ap (λ h. r.fault h) fit.head ∙ lawful.fault;
        mask = fit.fits;
        clean = λ _ reads no_data. fit.clean reads (ap (λ h. r.carries h) (sym fit.head) ∙ no_data);
      })

  pub handed-lawful : {bs : List (BeatOf H w)} {homes : List ℕ} {ms : List (Message H)} {rest : List (BeatOf H w)} → Handed r w bs homes ms rest →
      All (λ b. IsLawfulBeat r b) bs
  handed-lawful nothing = λ k d lt. absurd (omega arith)
  handed-lawful (begun m rest more lawful spells some left) = spelled-lawful m rest more lawful spells
  handed-lawful (whole m bs others homes ms rest lawful spells h) =
      All-append (λ b. IsLawfulBeat r b) bs others (λ k d lt.
      spelled-lawful m bs [] lawful (subst (λ (q : List (BeatOf H w)). Spells r m w q) (sym (append-nil bs)) spells) k d lt) (handed-lawful h)
