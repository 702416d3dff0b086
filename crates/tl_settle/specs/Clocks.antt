-- The clock that a side keeps, for proofs alone: each event has a time, and each far beat that the side sends carries
-- the time at which it was sent. At a meeting such clocks show one order (this project's choice).
use Rattle.std.specs.Prelude.{◌≡◌, ◌≤◌, ◌<◌, ◌++◌, ◌∷◌, ℕ, suc, List, [], map, Option, None, Some}
use mathlib.Core.List.{IsPrefix}
use Rattle.tl_msg.specs.Tables.{rules_a, rules_d}
use Rattle.tl_msg.specs.declared.head.HeadA.{HeadA}
use Rattle.tl_msg.specs.declared.head.HeadD.{HeadD}
use Rattle.tl_msg.specs.declared.beat.BeatOf.{BeatOf}
use Rattle.tl_convert.specs.Due.{due}
use Rattle.tl_settle.specs.Histories.{Event, Ask, Answer, asked, answered}
use Rattle.tl_settle.specs.OneOrder.{InOneOrder, Timed, events, AreBefore}

-- an item of a ring with the time at which it was sent
pub record Sent (X : Type 0) : Type 0 where
  pub item : X
  pub time : ℕ

abbrev pub items : {X : Type 0} → List (Sent X) → List X
items ss = map (λ s. s.item) ss

-- the beat that an event takes, at each side
abbrev pub response_of : {w : ℕ} → Event w → Option (BeatOf HeadD w)
response_of (Ask b) = None
response_of (Answer b) = Some b

abbrev pub request_of : {w : ℕ} → Event w → Option (BeatOf HeadA w)
request_of (Ask b) = Some b
request_of (Answer b) = None

-- what a side sends and takes on A and D: the far beats that its history makes due, and the beats that it takes
pub record Way (w : ℕ) (X Y : Type 0) : Type 1 where
  pub DueBy : List (Event w) → List X → Type 0
  pub taken : List (Event w) → List Y
  pub take_of : Event w → Option Y

abbrev pub client_way : {C M : ℕ} → Way C (BeatOf HeadA M) (BeatOf HeadD C)
client_way {C} {M} = record {
  DueBy = λ es far. (homes : List ℕ) × IsPrefix far (due rules_a C M (asked es) homes);
  taken = answered;
  take_of = response_of;
}

abbrev pub manager_way : {C M : ℕ} → Way M (BeatOf HeadD C) (BeatOf HeadA M)
manager_way {C} {M} = record {
  DueBy = λ es far. (homes : List ℕ) × IsPrefix far (due rules_d M C (answered es) homes);
  taken = asked;
  take_of = request_of;
}

module _ {w : ℕ} {X Y : Type 0} (way : Way w X Y) where
  -- these far beats were due by the events up to this time
  pub record SentAt (past : List (Timed w)) (far : List X) (time : ℕ) : Type 0 where
    pub front : List (Timed w)
    pub first : IsPrefix front past
    pub until : AreBefore front (suc time)
    pub due : way.DueBy (events front) far

  -- the next item that came out of the ring after those taken before, which was sent before this time
  pub record Got (received : List (Sent Y)) (before : List (Timed w)) (y : Y) (time : ℕ) : Type 0 where
    pub firsts : List (Sent Y)
    pub next : Sent Y
    pub lasts : List (Sent Y)
    pub parts : received ≡ firsts ++ next ∷ lasts
    pub before_it : items firsts ≡ way.taken (events before)
    pub is : next.item ≡ y
    pub earlier : next.time < time

  -- The side has this history, the items that it sent and received carry these times, and its clock shows now
  pub record KeepsTime (es : List (Event w)) (sent : List (Sent X)) (received : List (Sent Y)) (now : ℕ) : Type 0 where
    pub past : List (Timed w)
    pub is : events past ≡ es
    pub until : AreBefore past (suc now)
    pub sent_at : (before after : List (Sent X)) (s : Sent X) → sent ≡ before ++ s ∷ after → SentAt past (items before ++ s.item ∷ []) s.time
    pub got : (before after : List (Timed w)) (t : Timed w) (y : Y) → past ≡ before ++ t ∷ after → way.take_of t.event ≡ Some y →
        Got received before y t.time
    pub heard : (before after : List (Sent Y)) (s : Sent Y) → received ≡ before ++ s ∷ after → s.time < now

  -- Each call keeps it. An event, and a beat that is sent, have the clock's time. A beat that comes out of the ring moves
  -- the clock on past its time
  pub record TimeGoesOn : Type 0 where
    pub begins : KeepsTime [] [] [] 0
    pub accepts : (es : List (Event w)) (sent : List (Sent X)) (received : List (Sent Y)) (now : ℕ) → KeepsTime es sent received now →
        (e : Event w) → way.take_of e ≡ None → KeepsTime (es ++ e ∷ []) sent received now
    pub takes : (es : List (Event w)) (sent : List (Sent X)) (received : List (Sent Y)) (now : ℕ) → KeepsTime es sent received now →
        (e : Event w) (y : Y) → way.take_of e ≡ Some y → (rest : List Y) → items received ≡ way.taken es ++ y ∷ rest →
        KeepsTime (es ++ e ∷ []) sent received now
    pub pushes : (es : List (Event w)) (sent : List (Sent X)) (received : List (Sent Y)) (now : ℕ) → KeepsTime es sent received now →
        (x : X) → way.DueBy es (items sent ++ x ∷ []) → KeepsTime es (sent ++ record { item = x; time = now } ∷ []) received now
    pub fetches : (es : List (Event w)) (sent : List (Sent X)) (received : List (Sent Y)) (now : ℕ) → KeepsTime es sent received now →
        (s : Sent Y) (later : ℕ) → now ≤ later → s.time < later → KeepsTime es sent (received ++ s ∷ []) later

-- At a meeting the items that came out of each ring are the first of those that went in, with their times. So both
-- histories are in one order, whatever each side took since the last meeting
abbrev pub TimesShowAnOrder : (C M : ℕ) → Type 0
TimesShowAnOrder C M =
    (x : List (Event C)) (y : List (Event M)) (sent_a received_a : List (Sent (BeatOf HeadA M))) (sent_d received_d : List (Sent (BeatOf HeadD C)))
    (client_now manager_now : ℕ) → KeepsTime client_way x sent_a received_d client_now → KeepsTime manager_way y sent_d received_a manager_now →
    IsPrefix received_a sent_a → IsPrefix received_d sent_d → InOneOrder x y
