-- The facts that a tracker keeps through a burst, besides the head. Only contracts of private functions and the
-- tracker's invariant use these words.
use Rattle.std.specs.Prelude.{◌≡◌, ◌==◌, ℕ, Bool, true, Option, None, Some, if◌then◌else◌, bit_and}
use Rattle.tl_msg.specs.Rules.{Rules}
use Rattle.tl_msg.specs.Faults.{full_mask}
use Rattle.tl_burst.specs.Messages.{beats_of}
use Rattle.tl_burst.specs.declared.held.Held.{Held}

-- the mask test, in terms of the facts that are kept
abbrev pub fits_held : (masked : Bool) → (held : Held) → (mask : ℕ) → Bool
fits_held masked held mask = if masked then (if held.partial then bit_and mask held.lanes == mask else mask == held.lanes) else true

module _ {H : Type 0} (r : Rules H) (w : ℕ) where
  -- the facts of a message with this head
  pub record IsHeld (head : H) (held : Held) : Type 0 where
    pub beats : held.beats ≡ beats_of r head w
    pub lanes : held.lanes ≡ full_mask r head w
    pub partial : held.partial ≡ r.partial head

  -- if this burst is open, `held` has the facts of its message
  abbrev pub IsHeldIn : (burst : Option (H × ℕ)) → (held : Held) → Type 0
  IsHeldIn None held = Unit {0}
  IsHeldIn (Some burst) held = IsHeld burst.0 held
