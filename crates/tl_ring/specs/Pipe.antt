-- The logical view of the one-thread pipe.
use Rattle.std.specs.Prelude.{◌≡◌, ◌≤◌, ◌++◌, ℕ, Bool, true, false, List, []}
use Rattle.tl_msg.specs.Rules.{Rules}
use Rattle.tl_msg.specs.declared.beat.BeatOf.{BeatOf}
use Rattle.tl_convert.specs.Converting.{Progress}
use Rattle.tl_ring.specs.Boxes.{Outgoing, HasSent}
use Rattle.tl_ring.specs.Crossing.{World, IsReached}
use Rattle.tl_ring.specs.Laws.{Crosses}

-- the current state of a pipe, without its history
pub record Pipe (H : Type 0) (v : ℕ) : Type 0 where
  -- the position of its converter in a burst
  pub converter : Progress H v
  -- the capacity of the ring in beats
  pub room : ℕ
  -- the far beats that wait, from the sender's to the taker's
  pub stage : List (BeatOf H v)
  pub ring : List (BeatOf H v)
  pub inbox : List (BeatOf H v)
  pub closed : Bool

module _ {H : Type 0} {v : ℕ} where
  -- a beat may be offered: nothing is staged and the pipe is not closed
  abbrev pub IsReady : Pipe H v → Type 0
  IsReady p = (p.stage ≡ []) × (p.closed ≡ false)

  -- the pipe is closed and no beat is under way
  abbrev pub IsDrained : Pipe H v → Type 0
  IsDrained p = (p.closed ≡ true) × (p.stage ≡ []) × (p.ring ≡ []) × (p.inbox ≡ [])

-- the sender's part of a pipe
abbrev pub outbox_of : {H : Type 0} {v : ℕ} → Pipe H v → Outgoing H v
outbox_of p = record { converter = p.converter; stage = p.stage; closed = p.closed }

-- the pipe represents the crossing that its calls so far made
pub record StandsFor {H : Type 0} (r : Rules H) {w v : ℕ} (p : Pipe H v) (x : World H w v) : Type 0 where
  -- accepted beats went through its outbox; beats sent from there were taken, or are in the inbox or the ring
  pub outbox : HasSent r (outbox_of p) x.accepted x.homes (x.taken ++ x.inbox ++ x.ring)
  pub some_room : 1 ≤ x.room
  -- its beats are those of the crossing
  pub room : p.room ≡ x.room
  pub stage : p.stage ≡ x.stage
  pub ring : p.ring ≡ x.ring
  pub inbox : p.inbox ≡ x.inbox
  pub closed : p.closed ≡ x.closed
  -- a list of events leads there
  pub reached : IsReached r x
  -- so the beats taken, followed by those in the pipe, are the far layout of the accepted beats
  pub crosses : Crosses r x
