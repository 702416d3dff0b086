-- The places of beats without a fault.
use Rattle.tl_burst.proofs.Names.{◌≡◌, ◌<◌, ◌+◌, ◌==◌, ◌↔◌, ◌++◌, ℕ, Bool, true, false, not, if◌then◌else◌, Option, None, Some, Result, Ok, Err, IsOk}
use Rattle.tl_burst.proofs.Names.{IfOk, List, [], ◌∷◌, length, replicate, refl, sym, ap, subst, ◌∙◌, arith, eq-eqb, length-append, ◌||◌, IsWidth}
use Rattle.tl_burst.proofs.Names.{Rules, unless, ◌or_else◌, BeatOf, Mask, Corrupt, HeadChanged, both_none, unless_true, Message, beats_of, Handed}
use Rattle.tl_burst.proofs.Names.{burst_of, burst_after, fault_in, IsOpen, IsPlace, IsPlaceOf, Place}
use Rattle.std.specs.Int.Bits.{and_self, bit_and}
use Rattle.tl_msg.specs.Faults.{full_mask, mask_fits, is_clean}
use Rattle.tl_burst.proofs.Admitted.{Open, open-of}
use Rattle.tl_burst.proofs.FaultsExact.{ChannelLaws, none-lawful, none-held, begun-lawful}
use Rattle.tl_burst.proofs.RestOf.{RestIs, some-first}
use Rattle.tl_burst.proofs.Steps.{place-within}

-- the mask of all active lanes is one that a message may have
full-fits : (masked partial : Bool) (n : ℕ) → (if masked then (if partial then bit_and n n == n else n == n) else true) ≡ true
full-fits false partial n = refl
full-fits true true n = eq-eqb (bit_and n n) n (and_self n)
full-fits true false n = eq-eqb n n refl

clear-clean : (read carries : Bool) → (not read || (carries || not false)) ≡ true
clear-clean false carries = refl
clear-clean true true = refl
clear-clean true false = refl

module _ {H : Type 0} (r : Rules H) (w : ℕ) (ww : IsWidth w) (laws : ChannelLaws r) where
  -- a beat with this head, all active lanes and no corrupt
  abbrev plain : H → BeatOf H w
  plain h = record { head = h; mask = full_mask r h w; lanes = replicate w 0; corrupt = false }

  plain-fits : (h : H) → mask_fits r (plain h) ≡ true
  plain-fits h = full-fits r.masked (r.partial h) (full_mask r h w)

  plain-none : (burst : Option (H × ℕ)) (h : H) → r.fault h ≡ None → ((g : H) (count : ℕ) → burst ≡ Some (g, count) → h ≡ g) →
      fault_in r burst (plain h) ≡ None
  plain-none None h lawful held =
      both_none (r.fault h) (unless (mask_fits r (plain h)) Mask or_else unless (is_clean r (plain h)) Corrupt) lawful
      (both_none (unless (mask_fits r (plain h)) Mask) (unless (is_clean r (plain h)) Corrupt)
      (unless_true (mask_fits r (plain h)) Mask (plain-fits h))
      (unless_true (is_clean r (plain h)) Corrupt (clear-clean r.corrupts (r.carries h))))
  plain-none (Some (g, count)) h lawful held =
      both_none (unless (r.same h g) HeadChanged) (unless (mask_fits r (plain h)) Mask)
      (unless_true (r.same h g) HeadChanged ((laws.same_heads h g).1 (held g count refl)))
      (unless_true (mask_fits r (plain h)) Mask (plain-fits h))

  pub places-exact : {K : Type 0} (burst : Option (H × ℕ)) (place : Place K H) → IsOpen r w burst →
      IsPlace r w burst place ↔ (b : BeatOf H w) × IsPlaceOf r w burst b place
  places-exact burst place begun = (
    λ is. (plain place.head, record { accepted = plain-none burst place.head is.lawful is.held; head = refl; index = is.index; last = is.last }),
    λ (b, is).
        let lawful : r.fault place.head ≡ None = ap (λ h. r.fault h) is.head ∙ none-lawful r w ww laws burst b begun is.accepted in
        let held : (h : H) (count : ℕ) → burst ≡ Some (h, count) → place.head ≡ h = λ h count e. is.head ∙
        none-held r w ww laws burst b is.accepted h count e in
        record {
          lawful = lawful;
          held = held;
          index = is.index;
          within = place-within r w burst place.head place.index ww (laws.small place.head lawful) begun held is.index;
          last = is.last ∙ ap (λ h. place.index + 1 == beats_of r h w) (sym is.head);
        },
  )

  -- a check of a beat without a fault returns the beat's place
  pub place-told : {K E : Type 0} (burst : Option (H × ℕ)) (b : BeatOf H w) (answer : Result (Place K H) E) →
      IsOk answer ↔ (fault_in r burst b ≡ None) →
      IfOk answer (λ place. place.head ≡ b.head) → IfOk answer (IsPlace r w burst) → IfOk answer (IsPlaceOf r w burst b)
  place-told burst b (Ok place) accepts head is = record {
    accepted = accepts.0 refl;
    head = head;
    index = is.index;
    last = is.last ∙ ap (λ h. place.index + 1 == beats_of r h w) head;
  }
  place-told burst b (Err e) accepts head is = tt

  -- handed beats leave such a burst open, or none
  begun-inside : {homes : List ℕ} (b : BeatOf H w) (rest : List (BeatOf H w)) → Open r w homes (b ∷ rest) → length (b ∷ rest) < beats_of r b.head w
  begun-inside b rest o =
      let same : beats_of r b.head w ≡ beats_of r o.m.head w = ap (λ h. beats_of r h w) (o.spells.each 0 b refl).head in
      let count : length ((b ∷ rest) ++ o.more) ≡ beats_of r o.m.head w = o.spells.count in
      let (x, xs, some) = some-first o.more o.wants in
      let more : length o.more ≡ length (x ∷ xs) = ap length some in
      omega (arith, length-append (b ∷ rest) o.more)

  open-rest : {bs : List (BeatOf H w)} {homes : List ℕ} {ms : List (Message H)} (rest : List (BeatOf H w)) → Handed r w bs homes ms rest →
      IsOpen r w (burst_of r rest)
  open-rest [] handed = tt
  open-rest (b ∷ rest) handed = (begun-lawful r w ww laws handed b.head refl, omega arith, begun-inside b rest (open-of r w handed (λ e. cc)))

  -- so the place of a beat that may come after them is one that `advance` takes
  pub place-after : {K : Type 0} {bs : List (BeatOf H w)} {homes : List ℕ} {ms : List (Message H)} {rest : List (BeatOf H w)} →
      Handed r w bs homes ms rest →
      (burst : Option (H × ℕ)) (b : BeatOf H w) (place : Place K H) → burst ≡ burst_after r bs → IsPlaceOf r w burst b place → IsPlace r w burst place
  place-after {bs = bs} {rest = rest} handed burst b place e is =
      let P : Option (H × ℕ) → Type 0 = λ o. IsOpen r w o in
      let here : burst_of r rest ≡ burst = ap (λ xs. burst_of r xs) (RestIs r w handed) ∙ sym e in
      (places-exact burst place (subst P here (open-rest rest handed))).1 (b, is)
