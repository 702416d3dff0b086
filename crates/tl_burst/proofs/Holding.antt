-- The facts that a tracker keeps through a burst are those of the messages with its head.
use Rattle.std.specs.Bool.{then_some}
use Rattle.tl_burst.proofs.Names.{◌≡◌, ◌+◌, ◌==◌, ℕ, Bool, true, false, not, refl, if◌then◌else◌, bit_and, Option, None, Some, sym, ap, subst}
use Rattle.tl_burst.proofs.Names.{◌∙◌, arith}
use Rattle.tl_burst.proofs.Names.{Rules, beats_of, IsPlace, BeatOf, burst_with, count_in, IsHeld, IsHeldIn, Place, unless}
use Rattle.tl_msg.specs.Faults.{mask_fits}
use Rattle.tl_msg.specs.declared.fault.BeatFault.{BeatFault}
use Rattle.tl_burst.specs.Inner.Holding.{fits_held}
use Rattle.tl_burst.specs.declared.held.Held.{Held}

-- the fault of a test that fails
pub is_unless : (holds : Bool) (fault : BeatFault) → then_some (not holds) fault ≡ unless holds fault
is_unless true fault = refl
is_unless false fault = refl

module _ {H : Type 0} (r : Rules H) (w : ℕ) where
  -- the beats of a head that is the open burst's
  pub held-beats : (burst : Option (H × ℕ)) (head : H) (held : Held) → IsHeldIn r w burst held → (open_burst : H × ℕ) → burst ≡ Some open_burst →
      ((h : H) (count : ℕ) → burst ≡ Some (h, count) → head ≡ h) → held.beats ≡ beats_of r head w
  held-beats burst head held is (h, count) some same =
      let it : IsHeld r w h held = subst (λ b. IsHeldIn r w b held) some is in
      it.beats ∙ ap (λ x. beats_of r x w) (sym (same h count some))

  -- the mask test by what is held is that of the faults
  pub test-held : (b : BeatOf H w) (held : Held) (masked fits : Bool) → masked ≡ r.masked → fits ≡ fits_held masked held b.mask →
      IsHeld r w b.head held → fits ≡ mask_fits r b
  test-held b held masked fits m e is = e ∙ ap (λ x. fits_held x held b.mask) m ∙
      ap (λ x. if r.masked then (if x then bit_and b.mask held.lanes == b.mask else b.mask == held.lanes) else true) is.partial ∙
      ap (λ x. if r.masked then (if r.partial b.head then bit_and b.mask x == b.mask else b.mask == x) else true) is.lanes

  module _ {K : Type 0} (burst : Option (H × ℕ)) (place : Place K H) (is : IsPlace r w burst place) (more : place.last ≡ false) where
    after : burst_with place ≡ Some (place.head, place.index + 1)
    after = ap (λ last. if last then None else Some (place.head, place.index + 1)) more

    -- inside a burst that is not over, its head stays
    pub goes-on : (h : H) (count : ℕ) → burst ≡ Some (h, count) → Some (h, place.index + 1) ≡ burst_with place
    goes-on h count at = ap (λ x. Some (x, place.index + 1)) (sym (is.held h count at)) ∙ sym after

    -- outside one, a beat that is not the last opens it
    pub begins : burst ≡ None → Some (place.head, 1) ≡ burst_with place
    begins at = let first : place.index ≡ 0 = is.index ∙ ap count_in at in let one : 1 ≡ place.index + 1 = omega (arith, first) in
        ap (λ n. Some (place.head, n)) one ∙ sym after
