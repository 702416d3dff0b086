-- A beat has no fault if and only if it is admitted.
use Rattle.tl_burst.proofs.Names.{◌≡◌, ◌≤◌, ◌<◌, ◌^◌, ◌↔◌, ℕ, Bool, true, false, not, Option, None, Some, List, [], ◌∷◌, ◌++◌, refl, sym, ap, subst}
use Rattle.tl_burst.proofs.Names.{◌∙◌, ⊎_elim, ◌||◌, option_map_or, IsWidth, Rules, unless, ◌or_else◌, BeatOf, Mask, Corrupt, HeadChanged, first_none}
use Rattle.tl_burst.proofs.Names.{second_none, both_none, unless_none, unless_true, Message, Handed, IsHanded, IsHandedWith, IsAdmitted, rest_of}
use Rattle.tl_burst.proofs.Names.{burst_of, fault_in, fault_after, with_home, homes_with, IsOpen}
use Rattle.tl_msg.specs.Beats.{IsBeat}
use Rattle.tl_msg.specs.Faults.{mask_fits, is_clean, continuing_fault}
use Rattle.tl_burst.proofs.Fits.{Accepts, FitsMask, head_of}
use Rattle.tl_burst.proofs.MaskTest.{mask-tests}
use Rattle.tl_burst.proofs.RestOf.{RestIs}
use Rattle.tl_burst.proofs.Admitted.{Open, open-of, head-is, list-cases, admitted-accepts, accepts-admitted}

-- the meaning of the corrupt test
clean-says : (read carries corrupt : Bool) → (not read || (carries || not corrupt)) ≡ true → read ≡ true → carries ≡ false → corrupt ≡ false
clean-says false carries corrupt t e f = absurd (cc)
clean-says true true corrupt t e f = absurd (cc)
clean-says true false true t e f = absurd (cc)
clean-says true false false t e f = refl

says-clean : (read carries corrupt : Bool) → (read ≡ true → carries ≡ false → corrupt ≡ false) → (not read || (carries || not corrupt)) ≡ true
says-clean false carries corrupt h = refl
says-clean true true corrupt h = refl
says-clean true false true h = sym (h refl refl)
says-clean true false false h = refl

-- the laws of a channel that these proofs use
pub record ChannelLaws {H : Type 0} (r : Rules H) : Type 0 where
  pub same_heads : (x y : H) → (r.same x y ≡ true) ↔ (x ≡ y)
  pub small : (h : H) → r.fault h ≡ None → r.size h ≤ 12
  pub partial_carries : (h : H) → r.partial h ≡ true → r.carries h ≡ true
  pub masked_address : r.masked ≡ true → (h : H) (x y : ℕ) → r.lane_address h x ≡ r.lane_address h y
  pub home_kept : (h : H) (x : ℕ) → r.lane_address h (r.lane_address h x) ≡ r.lane_address h x

-- they follow from the laws of the trait, if the comparison of the rules is `==`
pub laws-of : {H : Type 0} {r : Rules H} {eq : H → H → Bool} → ((x y : H) → (eq x y ≡ true) ↔ (x ≡ y)) → ((x y : H) → r.same x y ≡ eq x y) →
    ((h : H) → r.fault h ≡ None → r.size h ≤ 12) → ((h : H) → r.partial h ≡ true → r.carries h ≡ true) →
    (r.masked ≡ true → (h : H) (x y : ℕ) → r.lane_address h x ≡ r.lane_address h y) →
    ((h : H) (x : ℕ) → r.lane_address h (r.lane_address h x) ≡ r.lane_address h x) →
    ChannelLaws r
laws-of same_heads same_is small partial_carries masked_address home_kept = record {
  same_heads = λ x y. (λ e. (same_heads x y).0 (sym (same_is x y) ∙ e), λ e. same_is x y ∙ (same_heads x y).1 e);
  small = small;
  partial_carries = partial_carries;
  masked_address = masked_address;
  home_kept = home_kept;
}

module _ {H : Type 0} (r : Rules H) (w : ℕ) (ww : IsWidth w) (laws : ChannelLaws r) where
  fits-mask : (b : BeatOf H w) → (mask_fits r b ≡ true) ↔ FitsMask r b
  fits-mask b = mask-tests r.masked (r.partial b.head) (r.lane_address b.head 0) (r.size b.head) w b.mask ww

  none-same : (h : H) (b : BeatOf H w) → continuing_fault r h b ≡ None → b.head ≡ h
  none-same h b e = (laws.same_heads b.head h).0
      (unless_none (r.same b.head h) HeadChanged (first_none (unless (r.same b.head h) HeadChanged) (unless (mask_fits r b) Mask) e))

  -- a beat without a fault is accepted after a rest
  pub none-accepts : (rest : List (BeatOf H w)) (b : BeatOf H w) → ((h : H) → head_of rest ≡ Some h → r.fault h ≡ None) →
      fault_in r (burst_of r rest) b ≡ None → Accepts r (head_of rest) b
  none-accepts [] b lawful e =
      let rest : (unless (mask_fits r b) Mask or_else unless (is_clean r b) Corrupt) ≡ None =
      second_none (r.fault b.head) (unless (mask_fits r b) Mask or_else unless (is_clean r b) Corrupt) e in
      record {
        held = λ h q. absurd (cc);
        lawful = first_none (r.fault b.head) (unless (mask_fits r b) Mask or_else unless (is_clean r b) Corrupt) e;
        mask = (fits-mask b).0 (unless_none (mask_fits r b) Mask (first_none (unless (mask_fits r b) Mask) (unless (is_clean r b) Corrupt) rest));
        clean = λ _. clean-says r.corrupts (r.carries b.head) b.corrupt
            (unless_none (is_clean r b) Corrupt (second_none (unless (mask_fits r b) Mask) (unless (is_clean r b) Corrupt) rest));
      }
  none-accepts (first ∷ more) b lawful e =
      let same : b.head ≡ first.head = none-same first.head b e in
      record {
        held = λ h q. let is : first.head ≡ h = cc in sym is ∙ sym same;
        lawful = ap (λ h. r.fault h) same ∙ lawful first.head refl;
        mask = (fits-mask b).0
            (unless_none (mask_fits r b) Mask (second_none (unless (r.same b.head first.head) HeadChanged) (unless (mask_fits r b) Mask) e));
        clean = λ q. absurd (cc);
      }

  pub accepts-none : (rest : List (BeatOf H w)) (b : BeatOf H w) → Accepts r (head_of rest) b → fault_in r (burst_of r rest) b ≡ None
  accepts-none [] b a =
      both_none (r.fault b.head) (unless (mask_fits r b) Mask or_else unless (is_clean r b) Corrupt) a.lawful
      (both_none (unless (mask_fits r b) Mask) (unless (is_clean r b) Corrupt)
      (unless_true (mask_fits r b) Mask ((fits-mask b).1 a.mask))
      (unless_true (is_clean r b) Corrupt (says-clean r.corrupts (r.carries b.head) b.corrupt (a.clean refl))))
  accepts-none (first ∷ more) b a =
      both_none (unless (r.same b.head first.head) HeadChanged) (unless (mask_fits r b) Mask)
      (unless_true (r.same b.head first.head) HeadChanged ((laws.same_heads b.head first.head).1 (sym (a.held first.head refl))))
      (unless_true (mask_fits r b) Mask ((fits-mask b).1 a.mask))

  -- the head of an unfinished message has no fault
  pub begun-lawful : {bs : List (BeatOf H w)} {homes : List ℕ} {ms : List (Message H)} {rest : List (BeatOf H w)} → Handed r w bs homes ms rest →
      (h : H) → head_of rest ≡ Some h → r.fault h ≡ None
  begun-lawful {rest = rest} handed h e = ⊎_elim
      (λ none. absurd (let q : head_of rest ≡ None = ap head_of none in cc))
      (λ some.
      let o : Open r w _ rest = open-of r w handed some in
      ap (λ g. r.fault g) (head-is r w o.m rest o.more h o.spells e) ∙ o.lawful.fault)
      (list-cases rest)

  -- a beat without a fault is admitted, with each home that it may have
  pub none-admitted : {bs : List (BeatOf H w)} {homes : List ℕ} {ms : List (Message H)} {rest : List (BeatOf H w)} (b : BeatOf H w) (home : ℕ) →
      Handed r w bs homes ms rest → IsBeat r b → fault_after r bs b ≡ None → (rest_of r w bs ≡ [] → r.lane_address b.head home ≡ home) →
      (rest_of r w bs ≡ [] → home < 2 ^ 64) →
      IsHandedWith r (bs ++ b ∷ []) (with_home r home (rest_of r w bs) homes)
  none-admitted {bs = bs} {homes = homes} {ms = ms} {rest = rest} b home handed beat e kept small =
      let is : rest ≡ rest_of r w bs = RestIs r w handed in
      let P : List (BeatOf H w) → Type 0 = λ ys. Handed r w bs homes ms ys in
      let here : Handed r w bs homes ms (rest_of r w bs) = subst P is handed in
      accepts-admitted r w ww laws.small laws.masked_address laws.partial_carries bs homes home b (ms, rest_of r w bs, here) beat.lanes
      beat.bytes kept small
      (none-accepts (rest_of r w bs) b (begun-lawful here) e)

  -- the same with the homes as the definitions have them
  pub none-handed : {bs : List (BeatOf H w)} {homes : List ℕ} {ms : List (Message H)} {rest : List (BeatOf H w)} (b : BeatOf H w) (home : ℕ) →
      Handed r w bs homes ms rest → IsBeat r b → fault_after r bs b ≡ None → r.lane_address b.head home < 2 ^ 64 →
      IsHandedWith r (bs ++ b ∷ []) (homes_with r bs homes b home)
  none-handed b home handed beat e small = none-admitted b (r.lane_address b.head home) handed beat e (λ _. laws.home_kept b.head home) (λ _. small)

  -- a beat that is admitted has no fault
  pub admitted-none : (bs : List (BeatOf H w)) (b : BeatOf H w) → IsHanded r bs → IsAdmitted r bs b → fault_after r bs b ≡ None
  admitted-none bs b before after =
      accepts-none (rest_of r w bs) b
      (admitted-accepts r w ww laws.small laws.masked_address laws.partial_carries bs after.homes b
      (after.messages, after.rest, after.handed))

  pub faults-exact : (bs : List (BeatOf H w)) (b : BeatOf H w) → IsHanded r bs → IsBeat r b → (fault_after r bs b ≡ None) ↔ IsAdmitted r bs b
  faults-exact bs b before beat = (
    λ e.
        let (ms, rest, handed) : IsHandedWith r (bs ++ b ∷ []) (homes_with r bs before.homes b 0) =
        none-handed b 0 before.handed beat e beat.address in
        record { homes = homes_with r bs before.homes b 0; messages = ms; rest = rest; handed = handed },
    λ after. admitted-none bs b before after,
  )

  -- a beat without a fault, whether or not a burst is open, has a head without a fault
  pub none-lawful : (burst : Option (H × ℕ)) (b : BeatOf H w) → IsOpen r w burst → fault_in r burst b ≡ None → r.fault b.head ≡ None
  none-lawful None b begun e = first_none (r.fault b.head) (unless (mask_fits r b) Mask or_else unless (is_clean r b) Corrupt) e
  none-lawful (Some (h, count)) b begun e = ap (λ g. r.fault g) (none-same h b e) ∙ begun.0

  pub none-held : (burst : Option (H × ℕ)) (b : BeatOf H w) → fault_in r burst b ≡ None → (h : H) (count : ℕ) → burst ≡ Some (h, count) → b.head ≡ h
  none-held None b e h count q = absurd (cc)
  none-held (Some (g, n)) b e h count q = none-same g b e ∙ ap (λ o. option_map_or (λ p. p.0) o g) q
