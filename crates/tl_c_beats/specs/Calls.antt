-- The status and the effect of a call of a handle (this project's choice). The handle held `before` and holds `now` a
-- bridge or a side of one, or nothing; the held value represents a past (`Holds`).
use Rattle.std.specs.Prelude.{◌≡◌, ◌≢◌, ℕ, Bool, true, false, Option, None, Some, Result, List, slice_get}
use Rattle.tl_msg.specs.declared.beat.BeatOf.{BeatOf}
use Rattle.tl_burst.specs.Handing.{rest_of}
use Rattle.tl_ring.specs.declared.fault.EndFault.{EndFault}
use Rattle.tl_ring.specs.Crossing.{World}
use Rattle.tl_sides.specs.Calls.{SendingChannel, ClosesChannel, with_beat, ended}
use Rattle.tl_c_beats.specs.declared.fields.BeatFields.{BeatFields}
use Rattle.tl_c_beats.specs.Answers.{IsTold, is_ready, offer_answer, close_answer, close_number}

-- a value is held, and it represents a past
abbrev pub Stands : {S P : Type 0} → (StandsFor : S → P → Type 0) → Option S → P → Type 0
Stands StandsFor None x = ⊥
Stands StandsFor (Some h) x = StandsFor h x

-- whether a channel is ready for a beat: false if nothing is held. Nothing changes
pub record Asks {S P : Type 0} (Holds : Option S → P → Type 0) {H : Type 0} {w v : ℕ} (channel : P → World H w v) (before now : Option S)
    (answer : Bool) : Type 0 where
  pub nothing : before ≡ None → answer ≡ false
  pub ready : (x : P) → Holds before x → answer ≡ is_ready (channel x)
  pub same : now ≡ before

-- an offer of a beat on a channel of the held side: status `none` if nothing is held. If it is accepted, the past is
-- extended; otherwise nothing changes
pub record Offers {S P R : Type 0} (Holds : Option S → P → Type 0) (none : ℕ) {H : Type 0} {w v : ℕ} (k : SendingChannel R P H w v)
    (b : BeatOf H w) (before now : Option S) (answer : ℕ) : Type 0 where
  pub nothing : before ≡ None → answer ≡ none
  pub answers : (x : P) → Holds before x → answer ≡ offer_answer (k.crossing x) (k.stops x b)
  pub accepted : (x : P) → Holds before x → answer ≡ 0 → Holds now (with_beat k b x)
  pub refused : answer ≢ 0 → now ≡ before

-- a close of a channel by its holder, and the status that C receives
pub record ClosesNumbered {R P H : Type 0} {w v : ℕ} (k : SendingChannel R P H w v) (before : R) (number : ℕ) (now : R) : Type 0 where
  pub answer : Result (Unit {0}) EndFault
  pub numbered : number ≡ close_number answer
  pub closes : ClosesChannel k before answer now

-- a close of a channel: status `none` if nothing is held. If it is closed, the past is extended; otherwise nothing
-- changes
pub record Closes {S P R : Type 0} (Holds : Option S → P → Type 0) (none : ℕ) {H : Type 0} {w v : ℕ} (k : SendingChannel R P H w v)
    (before now : Option S) (answer : ℕ) : Type 0 where
  pub nothing : before ≡ None → answer ≡ none
  pub answers : (x : P) → Holds before x → answer ≡ close_answer (rest_of k.rules w (k.crossing x).accepted)
  pub closed : (x : P) → Holds before x → answer ≡ 0 → Holds now (ended k x)
  pub refused : answer ≢ 0 → now ≡ before

-- C received this beat, if there is one; otherwise nothing was written
pub record Told {H : Type 0} {w : ℕ} (fields_of : BeatOf H w → BeatFields) (first : Option (BeatOf H w)) (unwritten written : BeatFields)
    (old_bytes bytes : List ℕ) (answer : Bool) : Type 0 where
  pub beat : answer ≡ true → IsTold fields_of first written bytes
  pub none : answer ≡ false → (first ≡ None) × (written ≡ unwritten) × (bytes ≡ old_bytes)

-- C received the first beat of an inbox, or the information that there is none
pub record Tells {H : Type 0} {w : ℕ} (fields_of : BeatOf H w → BeatFields) (inbox : List (BeatOf H w)) (written : BeatFields) (bytes : List ℕ)
    (answer : Bool) : Type 0 where
  pub beat : answer ≡ true → IsTold fields_of (slice_get inbox 0) written bytes
  pub none : answer ≡ false → slice_get inbox 0 ≡ None
