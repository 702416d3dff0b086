-- The logical view of a sender's outbox and of a receiver's inbox. Neither depends on a ring.
use Rattle.std.specs.Prelude.{◌≡◌, ◌≤◌, ℕ, Bool, true, false, List, [], ◌++◌, All}
use Rattle.tl_lanes.specs.Lanes.{IsWidth}
use Rattle.tl_msg.specs.Rules.{Rules}
use Rattle.tl_msg.specs.Faults.{IsLawfulBeat}
use Rattle.tl_msg.specs.declared.beat.BeatOf.{BeatOf}
use Rattle.tl_burst.specs.Handing.{rest_of}
use Rattle.tl_convert.specs.Converting.{Progress}
use Rattle.tl_convert.specs.Converting as converting
use Rattle.tl_convert.specs.Due.{due}
use Rattle.tl_ring.specs.Crossing.{World, IsReached}

-- the current state of an outbox, without its history
pub record Outgoing (H : Type 0) (v : ℕ) : Type 0 where
  -- the position of its converter in a burst
  pub converter : Progress H v
  -- the far beats that wait to be sent
  pub stage : List (BeatOf H v)
  pub closed : Bool

-- a beat may be offered: nothing is staged and the outbox is not closed
abbrev pub IsOpen : {H : Type 0} {v : ℕ} → Outgoing H v → Type 0
IsOpen o = (o.stage ≡ []) × (o.closed ≡ false)

-- no more beats may be offered, and all beats that became due were sent
abbrev pub IsSentOut : {H : Type 0} {v : ℕ} → Outgoing H v → Type 0
IsSentOut o = (o.closed ≡ true) × (o.stage ≡ [])

-- beats of which each is lawful by itself
abbrev pub AreLawful : {H : Type 0} → Rules H → {v : ℕ} → List (BeatOf H v) → Type 0
AreLawful r bs = All (λ b. IsLawfulBeat r b) bs

-- the crossing through a ring of `room` beats, if the other end took each beat as soon as it was sent
abbrev pub as_sent : {H : Type 0} {w v : ℕ} → (room : ℕ) → Outgoing H v → (accepted : List (BeatOf H w)) → (homes : List ℕ) →
    (sent : List (BeatOf H v)) → World H w v
as_sent room o accepted homes sent = record {
  room = room;
  accepted = accepted;
  homes = homes;
  stage = o.stage;
  ring = [];
  inbox = [];
  taken = sent;
  closed = o.closed;
}

-- an outbox accepted these near beats, with the homes of the messages that they began, and sent
-- these far beats
pub record HasSent {H : Type 0} (r : Rules H) {w v : ℕ} (o : Outgoing H v) (accepted : List (BeatOf H w)) (homes : List ℕ)
    (sent : List (BeatOf H v)) : Type 0 where
  pub near : IsWidth w
  pub far : IsWidth v
  -- its converter was fed the accepted beats
  pub converter : converting.StandsFor r o.converter accepted homes
  -- the beats sent, followed by those staged, are the far layout of the accepted beats
  pub beats : sent ++ o.stage ≡ due r w v accepted homes
  -- once closed, only whole messages were accepted
  pub closed_whole : o.closed ≡ true → rest_of r w accepted ≡ []
  -- a list of events leads there
  pub reached : (room : ℕ) → 1 ≤ room → IsReached r (as_sent room o accepted homes sent)

-- the beats received in an inbox are those taken, followed by those still in it
abbrev pub HasTaken : {X : Type 0} → (inbox received taken : List X) → Type 0
HasTaken inbox received taken = received ≡ taken ++ inbox
