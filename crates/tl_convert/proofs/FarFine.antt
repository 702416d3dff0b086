-- No far beat that is due has a fault after those before it.
use Rattle.tl_convert.proofs.Names.{◌≡◌, ℕ, true, None, List, [], ◌∷◌, ◌++◌, sym, subst, ◌∙◌, append_assoc, IsWidth, Rules, BeatOf, IsHanded}
use Rattle.tl_convert.proofs.Names.{fault_after, due, ChannelLaws}
use Rattle.tl_burst.specs.Handing.{IsHandedWith}
use Rattle.tl_burst.proofs.FaultsExact.{admitted-none}
use Rattle.tl_burst.proofs.Fronts.{front-handed}
use Rattle.tl_convert.specs.Laws.{HasNoFaults, DueHasNoFaults}
use Rattle.tl_convert.proofs.Extends.{Extends, more}
use Rattle.tl_convert.proofs.FarHanded.{far-handed}

module _ {H : Type 0} (r : Rules H) (laws : ChannelLaws r) where
  -- a list that is handed has no fault
  pub handed_fine : (w : ℕ) → IsWidth w → (bs : List (BeatOf H w)) → IsHanded r bs → HasNoFaults r bs
  handed_fine w ww bs h before after b e =
      let whole : IsHanded r ((before ++ b ∷ []) ++ after) = subst (λ ys. IsHanded r ys) (e ∙ sym (append_assoc before (b ∷ []) after)) h in
      let one : IsHanded r (before ++ b ∷ []) = front-handed r w (before ++ b ∷ []) after whole in
      admitted-none r w ww laws before b (front-handed r w before (b ∷ []) one) one

  module _ (masked : (h : H) → r.partial h ≡ true → r.masked ≡ true) {w v : ℕ} (ww : IsWidth w) (vw : IsWidth v) where
    pub due_fine : DueHasNoFaults r w v
    due_fine bs homes ms rest h =
        let far = far-handed r w v ww vw masked h in
        handed_fine v vw (due r w v bs homes) (record { homes = _; messages = _; rest = far.far_rest; handed = far.handed })

    -- so the next far beat has no fault after those before it
    pub far_fine : (near : List (BeatOf H w)) (homes : List ℕ) → IsHandedWith r near homes → (taken : List (BeatOf H v)) (b : BeatOf H v) →
        Extends (taken ++ b ∷ []) (due r w v near homes) → fault_after r taken b ≡ None
    far_fine near homes handed taken b on = by_rest on (due_fine near homes handed.0 handed.1 handed.2)
      where
        by_rest : {all : List (BeatOf H v)} → Extends (taken ++ b ∷ []) all → HasNoFaults r all → fault_after r taken b ≡ None
        by_rest (more _ rest) fine = fine taken rest b (append_assoc taken (b ∷ []) rest)
