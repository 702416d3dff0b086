-- The state of a tracker: the open burst, given by its head and the number of its accepted beats.
use Rattle.std.specs.Prelude.{◌≡◌, ◌<◌, ◌+◌, ◌==◌, ℕ, Option, None, Some, if◌then◌else◌}
use Rattle.tl_msg.specs.Rules.{Rules}
use Rattle.tl_msg.specs.declared.beat.BeatOf.{BeatOf}
use Rattle.tl_burst.specs.Messages.{beats_of}
use Rattle.tl_burst.specs.Handing.{fault_in}
use Rattle.tl_burst.specs.declared.place.Place.{Place}

-- the number of accepted beats of the open burst
abbrev pub count_in : {H : Type 0} → (burst : Option (H × ℕ)) → ℕ
count_in None = 0
count_in (Some burst) = burst.1

-- the burst that is open after a beat at this place
abbrev pub burst_with : {K H : Type 0} → Place K H → Option (H × ℕ)
burst_with place = if place.last then None else Some (place.head, place.index + 1)

module _ {H : Type 0} (r : Rules H) (w : ℕ) where
  -- a burst is open only after its first beat and before its last one, and its head has no fault (burst rules)
  abbrev pub IsOpen : (burst : Option (H × ℕ)) → Type 0
  IsOpen None = Unit {0}
  IsOpen (Some burst) = (r.fault burst.0 ≡ None) × (0 < burst.1) × (burst.1 < beats_of r burst.0 w)

  -- in this state of the burst, the beat has no fault, and this is its place
  pub record IsPlaceOf {K : Type 0} (burst : Option (H × ℕ)) (b : BeatOf H w) (place : Place K H) : Type 0 where
    pub accepted : fault_in r burst b ≡ None
    pub head : place.head ≡ b.head
    pub index : place.index ≡ count_in burst
    pub last : place.last ≡ (place.index + 1 == beats_of r b.head w)

  -- in this state of the burst, this is the place of some beat that has no fault; stated without the beat
  pub record IsPlace {K : Type 0} (burst : Option (H × ℕ)) (place : Place K H) : Type 0 where
    pub lawful : r.fault place.head ≡ None
    -- inside a burst the head is the burst's
    pub held : (h : H) (count : ℕ) → burst ≡ Some (h, count) → place.head ≡ h
    -- `index` beats of the message were accepted, and the message has more
    pub index : place.index ≡ count_in burst
    pub within : place.index < beats_of r place.head w
    pub last : place.last ≡ (place.index + 1 == beats_of r place.head w)
