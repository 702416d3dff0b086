-- The crossing of one channel as a state with events, in any order (this project's choice; the ring is modelled on
-- Rocket Chip's TLAsyncCrossing).
use Rattle.std.specs.Prelude.{◌≡◌, ◌-◌, ◌≤◌, ◌<◌, ◌^◌, ℕ, Bool, true, false, List, [], ◌∷◌, ◌++◌, length, take, drop, min}
use Rattle.tl_msg.specs.Beats.{IsBeat}
use Rattle.tl_msg.specs.Rules.{Rules}
use Rattle.tl_msg.specs.declared.beat.BeatOf.{BeatOf}
use Rattle.tl_burst.specs.Handing.{IsAdmitted, rest_of, homes_with}
use Rattle.tl_convert.specs.Due.{due}
use Rattle.tl_ring.specs.declared.queue.TheConstants.{STAGE_CAPACITY}

-- the capacity of an inbox in beats
abbrev pub inbox_room : ℕ
inbox_room = STAGE_CAPACITY

-- the beats of one channel by their place: on w lanes until they are accepted, on v lanes from then on
pub record World (H : Type 0) (w v : ℕ) : Type 0 where
  -- the capacity of the ring in beats
  pub room : ℕ
  -- the near beats that were accepted, and the homes of the messages that they began
  pub accepted : List (BeatOf H w)
  pub homes : List ℕ
  -- the far beats, from the sender's to the taker's
  pub stage : List (BeatOf H v)
  pub ring : List (BeatOf H v)
  pub inbox : List (BeatOf H v)
  pub taken : List (BeatOf H v)
  pub closed : Bool

-- the attempts that an end can make
pub data Event (H : Type 0) (w : ℕ) : Type 0 where
  -- a near beat, with the home of the message that it may open
  offer : (b : BeatOf H w) (home : ℕ) → Event H w
  -- k beats into the ring, or out of it
  push : (k : ℕ) → Event H w
  pop : (k : ℕ) → Event H w
  take_one : Event H w
  close : Event H w

module _ {H : Type 0} {w v : ℕ} where
  -- a new crossing
  abbrev pub empty : (room : ℕ) → World H w v
  empty room = record { room = room; accepted = []; homes = []; stage = []; ring = []; inbox = []; taken = []; closed = false }

  -- k beats move from the front of the stage to the end of the ring
  abbrev pub pushed : (k : ℕ) → World H w v → World H w v
  pushed k x = record x { stage = drop k x.stage; ring = x.ring ++ take k x.stage }

  -- k beats move from the front of the ring to the end of the inbox
  abbrev pub popped : (k : ℕ) → World H w v → World H w v
  popped k x = record x { ring = drop k x.ring; inbox = x.inbox ++ take k x.ring }

  -- the inbox's first beat is taken
  abbrev pub took : World H w v → World H w v
  took x = record x { inbox = drop 1 x.inbox; taken = x.taken ++ take 1 x.inbox }

  abbrev pub shut : World H w v → World H w v
  shut x = record x { closed = true }

module _ {H : Type 0} (r : Rules H) {w v : ℕ} where
  -- a beat is accepted, and the far beats that it completes wait in the stage
  abbrev pub offered : BeatOf H w → (home : ℕ) → World H w v → World H w v
  offered b home x = record x {
    accepted = x.accepted ++ b ∷ [];
    homes = homes_with r x.accepted x.homes b home;
    stage = drop (length (due r w v x.accepted x.homes)) (due r w v (x.accepted ++ b ∷ []) (homes_with r x.accepted x.homes b home));
  }

  -- an event is possible; an offer must bring a beat that memory can hold, and a home that is an address of 64 bits
  abbrev pub IsPossible : World H w v → Event H w → Type 0
  IsPossible x (offer b home) = (x.closed ≡ false) × (x.stage ≡ []) × IsBeat r b × (r.lane_address b.head home < 2 ^ 64) × IsAdmitted r x.accepted b
  IsPossible x (push k) = (1 ≤ k) × (k ≤ min (length x.stage) (x.room - length x.ring))
  IsPossible x (pop k) = (1 ≤ k) × (k ≤ min (length x.ring) (inbox_room - length x.inbox))
  IsPossible x take_one = 1 ≤ length x.inbox
  IsPossible x close = (x.closed ≡ false) × (rest_of r w x.accepted ≡ [])

  -- the world after a possible event
  abbrev pub effect : World H w v → Event H w → World H w v
  effect x (offer b home) = offered b home x
  effect x (push k) = pushed k x
  effect x (pop k) = popped k x
  effect x take_one = took x
  effect x close = shut x

  -- a world after a list of events; an event that is not possible changes nothing
  pub data Run : World H w v → List (Event H w) → World H w v → Type 0 where
    done : (x : World H w v) → Run x [] x
    happens : (x y : World H w v) (e : Event H w) (es : List (Event H w)) → IsPossible x e → Run (effect x e) es y → Run x (e ∷ es) y
    fails : (x y : World H w v) (e : Event H w) (es : List (Event H w)) → (IsPossible x e → ⊥) → Run x es y → Run x (e ∷ es) y

  -- a list of events leads to this world
  pub record IsReached (x : World H w v) : Type 0 where
    pub events : List (Event H w)
    pub run : Run (empty x.room) events x
