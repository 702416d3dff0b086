-- The state that each side keeps between its calls, and that it determines the decisions of the side (this project's
-- choice).
use Rattle.std.specs.Prelude.{◌≡◌, ◌↔◌, ◌++◌, ◌∷◌, [], ℕ, Bool, Option, None, Some, List, Result, IsOk, IfOk, IfErr, OnOk, OnErr}
use Rattle.tl_burst.specs.Begun.{left}
use Rattle.tl_burst.specs.Handing.{IsHanded, burst_after, fault_after}
use Rattle.tl_burst.specs.Tracking.{IsPlaceOf}
use Rattle.tl_burst.specs.declared.place.Place.{Place}
use Rattle.tl_msg.specs.Rules.{Rules}
use Rattle.tl_msg.specs.Tables.{rules_a, rules_d}
use Rattle.tl_msg.specs.declared.beat.BeatOf.{BeatOf}
use Rattle.tl_msg.specs.declared.fault.BeatFault.{BeatFault}
use Rattle.tl_msg.specs.declared.fault.SideFault.{SideFault}
use Rattle.tl_msg.specs.declared.head.HeadA.{HeadA}
use Rattle.tl_msg.specs.declared.head.HeadD.{HeadD}
use Rattle.tl_settle.specs.Histories.{Event, Ask, Answer, asked, answered, marks, client_answer, manager_answer}
use Rattle.tl_settle.specs.declared.tables.Request.{Request}
use Rattle.tl_settle.specs.Tables.{AreBusy, AreOpen}

-- the client's side: its busy sources, and the number of beats still missing from the last response that it takes
pub record Client : Type 0 where
  pub sources : List Bool
  pub lacking : ℕ

-- the manager's side: the outstanding requests, and the number of beats still missing from the last request that it
-- takes
pub record Manager : Type 0 where
  pub requests : List (Option Request)
  pub lacking : ℕ

-- a book is kept up to this history of its side
pub record KnowsClient {w : ℕ} (book : Client) (es : List (Event w)) : Type 0 where
  pub sources : AreBusy book.sources (marks es)
  pub lacking : book.lacking ≡ left rules_d w (answered es)

pub record KnowsManager {w : ℕ} (book : Manager) (es : List (Event w)) : Type 0 where
  pub requests : AreOpen book.requests (marks es)
  pub lacking : book.lacking ≡ left rules_a w (asked es)

-- after these beats, no burst of which is interrupted, a beat has no fault and is at this place of its message
pub record IsNext {H K : Type 0} (r : Rules H) {w : ℕ} (bs : List (BeatOf H w)) (b : BeatOf H w) (place : Place K H) : Type 0 where
  pub handed : IsHanded r bs
  pub is_place : IsPlaceOf r w (burst_after r bs) b place

-- the result of checking that beat: its place, or its fault
pub record IsChecked {H K : Type 0} (r : Rules H) {w : ℕ} (bs : List (BeatOf H w)) (b : BeatOf H w)
    (checked : Result (Place K H) BeatFault) : Type 0 where
  pub place : IfOk checked (IsNext r bs b)
  pub fault : IfErr checked (λ fault. fault_after r bs b ≡ Some fault)

-- a book that decides on a channel that its side sends: the beats of that channel that a history of the side has
-- accepted, the reason why the next beat is refused (None if it is accepted), and the event of an accepted beat
pub record Deciding (S H : Type 0) (w : ℕ) : Type 1 where
  pub rules : Rules H
  pub Knows : S → List (Event w) → Type 0
  pub accepted : List (Event w) → List (BeatOf H w)
  pub stops : List (Event w) → BeatOf H w → Option SideFault
  pub event : BeatOf H w → Event w

abbrev pub client_decides : {C : ℕ} → Deciding Client HeadA C
client_decides = record { rules = rules_a; Knows = KnowsClient; accepted = asked; stops = client_answer; event = Ask }

abbrev pub manager_decides : {M : ℕ} → Deciding Manager HeadD M
manager_decides = record { rules = rules_d; Knows = KnowsManager; accepted = answered; stops = manager_answer; event = Answer }

-- a book decided on a beat, whose check had this result
pub record Admits {S H K T : Type 0} {w : ℕ} (k : Deciding S H w) (checked : Result (Place K H) BeatFault) (s : S) (answer : Result T SideFault)
    (s' : S) : Type 0 where
  -- for every history that the book knows, the beat is accepted if and only if there is no reason to refuse it, and is
  -- then recorded
  pub admitted : (es : List (Event w)) (b : BeatOf H w) → k.Knows s es → IsChecked k.rules (k.accepted es) b checked →
      IsOk answer ↔ (k.stops es b ≡ None)
  pub noted : (es : List (Event w)) (b : BeatOf H w) → k.Knows s es → IsChecked k.rules (k.accepted es) b checked →
      OnOk answer (k.Knows s' (es ++ k.event b ∷ []))
  -- otherwise the result is that reason, and nothing changes
  pub fault : (es : List (Event w)) (b : BeatOf H w) → k.Knows s es → IsChecked k.rules (k.accepted es) b checked →
      IfErr answer (λ fault. k.stops es b ≡ Some fault)
  pub refused : OnErr answer (s' ≡ s)
