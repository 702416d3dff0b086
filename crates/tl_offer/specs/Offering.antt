-- A bridge or a side offers the next beat of one of its channels. Only contracts of the runs cite these words.
use Rattle.std.specs.Prelude.{◌≡◌, ◌≢◌, ◌⊎◌, ℕ, true, false, Option, None, Some, List, [], ◌∷◌, Result, Ok, Err, slice_get}
use Rattle.tl_msg.specs.Rules.{Rules}
use Rattle.tl_msg.specs.declared.beat.BeatOf.{BeatOf}
use Rattle.tl_msg.specs.declared.fault.SideFault.{SideFault}
use Rattle.tl_burst.specs.Handing.{rest_of}
use Rattle.tl_ring.specs.Crossing.{World, offered, shut}
use Rattle.tl_ring.specs.declared.fault.EndFault.{EndFault}
use Rattle.tl_sides.specs.Calls.{SendingChannel}
use Rattle.tl_offer.specs.declared.offered.Offered.{Offered}
use Rattle.tl_offer.specs.declared.offered.Offered.TheVariants.{Accepted, NotReady, Stopped}
use Rattle.tl_offer.specs.declared.offered.Stop.TheVariants.{Done, Cut, Refused}

-- the outcome of a beat that is offered, and of a channel that has none left, from the result of the offer and of the
-- close
abbrev pub offer_outcome : Result (Unit {0}) SideFault → Offered
offer_outcome (Ok _) = Accepted
offer_outcome (Err fault) = Stopped (Refused fault)

abbrev pub close_outcome : Result (Unit {0}) EndFault → Offered
close_outcome (Ok _) = Stopped Done
close_outcome (Err _) = Stopped Cut

-- the number of beats that a channel accepts in a round
abbrev pub steps : Offered → ℕ
steps Accepted = 1
steps NotReady = 0
steps (Stopped stop) = 0

-- the fault for which a beat is refused
abbrev pub refused_by : Offered → Option SideFault
refused_by Accepted = None
refused_by NotReady = None
refused_by (Stopped (Refused fault)) = Some fault
refused_by (Stopped Done) = None
refused_by (Stopped Cut) = None

-- a beat was offered: it was accepted, or refused for a fault
abbrev pub IsOffered : Offered → Type 0
IsOffered Accepted = Unit {0}
IsOffered NotReady = ⊥
IsOffered (Stopped (Refused fault)) = Unit {0}
IsOffered (Stopped Done) = ⊥
IsOffered (Stopped Cut) = ⊥

module _ {H : Type 0} (r : Rules H) {w v : ℕ} (bs : List (BeatOf H w)) (n : ℕ) where
  -- The effect on the next beat of a list of which n beats were accepted, if `answer` is the reason why the channel's
  -- side refuses a beat and `home` the home of a message that the beat begins: the accepted beats, and the crossing
  -- afterwards
  abbrev pub Does : (answer : BeatOf H w → Option SideFault) → (home : BeatOf H w → ℕ) → (x : World H w v) → Offered →
      (accepted : List (BeatOf H w)) →
      (y : World H w v) → Type 0
  Does answer home x Accepted accepted y =
      (b : BeatOf H w) × (slice_get bs n ≡ Some b) × (answer b ≡ None) × (accepted ≡ b ∷ []) × (y ≡ offered r b (home b) x)
  Does answer home x NotReady accepted y =
      (b : BeatOf H w) × (slice_get bs n ≡ Some b) × ((x.stage ≢ []) ⊎ (x.closed ≡ true)) × (accepted ≡ []) × (y ≡ x)
  Does answer home x (Stopped (Refused fault)) accepted y =
      (b : BeatOf H w) × (slice_get bs n ≡ Some b) × (answer b ≡ Some fault) × (accepted ≡ []) × (y ≡ x)
  Does answer home x (Stopped Done) accepted y =
      (slice_get bs n ≡ None) × (rest_of r w x.accepted ≡ []) × (accepted ≡ []) × (y ≡ shut x)
  Does answer home x (Stopped Cut) accepted y =
      (slice_get bs n ≡ None) × (rest_of r w x.accepted ≢ []) × (accepted ≡ []) × (y ≡ x)

-- the next beat of a list, of which n beats were accepted, was offered if the channel was ready
pub record OffersNext {S P H : Type 0} {w v : ℕ} (k : SendingChannel S P H w v) (bs : List (BeatOf H w)) (n : ℕ) (s : S)
    (o : Offered) (s' : S) : Type 0 where
  pub keeps : k.Keeps s s'
  pub does : (x : P) → k.Stands s x → (accepted : List (BeatOf H w)) × (y : World H w v) × k.Stands s' (k.put y (k.note accepted x)) ×
      Does k.rules bs n (k.stops x) (k.home x) (k.crossing x) o accepted y
  -- a beat is offered only if nothing is staged and the channel isn't closed
  pub ready : IsOffered o → (x : P) → k.Stands s x → ((k.crossing x).stage ≡ []) × ((k.crossing x).closed ≡ false)
