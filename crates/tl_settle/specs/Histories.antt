-- The history of a side of the bridge: the beats of A and D in the order of its own calls (TileLink: source and size of
-- responses; the moments at which a source is busy and a request is outstanding: this project's choice).
use Rattle.std.specs.Prelude.{◌-◌, ◌==◌, ◌++◌, ℕ, zero, suc, Option, None, Some, List, [], ◌∷◌, cond, if◌then◌else◌}
use Rattle.std.specs.Option.{option_map_or, is_some}
use Rattle.tl_msg.specs.Tables.{rules_a, rules_d}
use Rattle.tl_msg.specs.declared.head.HeadA.{HeadA}
use Rattle.tl_msg.specs.declared.head.HeadD.{HeadD}
use Rattle.tl_msg.specs.declared.beat.BeatOf.{BeatOf}
use Rattle.tl_msg.specs.declared.fault.SideFault.{SideFault}
use Rattle.tl_msg.specs.declared.fault.SideFault.TheVariants.{Beat, SourceBusy, NoRequest, SizeMismatch}
use Rattle.tl_burst.specs.Handing.{fault_after}
use Rattle.tl_burst.specs.Begun.{left}
use Rattle.tl_burst.specs.Messages.{beats_of}
use Rattle.tl_settle.specs.Requests.{is_request_of, is_response_to, is_release_ack}

-- The client's side accepts the beats of A and takes those of D; the manager's side takes the beats of A and accepts
-- those of D. Both are at the width of their side.
pub data Event (w : ℕ) : Type 0 where
  Ask : BeatOf HeadA w → Event w
  Answer : BeatOf HeadD w → Event w

-- the beats of A, and those of D
abbrev pub asked : {w : ℕ} → List (Event w) → List (BeatOf HeadA w)
asked [] = []
asked (Ask b ∷ es) = b ∷ asked es
asked (Answer b ∷ es) = asked es

abbrev pub answered : {w : ℕ} → List (Event w) → List (BeatOf HeadD w)
answered [] = []
answered (Ask b ∷ es) = answered es
answered (Answer b ∷ es) = b ∷ answered es

-- a message that begins
pub data Mark : Type 0 where
  Asks : HeadA → Mark
  Answers : HeadD → Mark

-- the messages that begin in a history in which the first inside_a beats of A and inside_d beats of D continue earlier
-- messages
abbrev pub marks_from : {w : ℕ} → (inside_a inside_d : ℕ) → List (Event w) → List Mark
marks_from a d [] = []
marks_from {w = w} zero d (Ask b ∷ es) = Asks b.head ∷ marks_from (beats_of rules_a b.head w - 1) d es
marks_from (suc a) d (Ask b ∷ es) = marks_from a d es
marks_from {w = w} a zero (Answer b ∷ es) = Answers b.head ∷ marks_from a (beats_of rules_d b.head w - 1) es
marks_from a (suc d) (Answer b ∷ es) = marks_from a d es

abbrev pub marks : {w : ℕ} → List (Event w) → List Mark
marks es = marks_from 0 0 es

-- the outstanding request of source s: the last that began, unless a response to s began after it
abbrev pub open_after : (s : ℕ) → Option HeadA → Mark → Option HeadA
open_after s so_far (Asks h) = cond (is_request_of s h) (Some h) so_far
open_after s so_far (Answers h) = cond (is_response_to s h) None so_far

abbrev pub open_from : (s : ℕ) → Option HeadA → List Mark → Option HeadA
open_from s so_far [] = so_far
open_from s so_far (m ∷ ms) = open_from s (open_after s so_far m) ms

abbrev pub open_request : (s : ℕ) → List Mark → Option HeadA
open_request s ms = open_from s None ms

-- the reason why the client's side refuses a beat of A after a history; None if it accepts it. Source s is busy if it
-- has an outstanding request
abbrev pub client_answer : {w : ℕ} → List (Event w) → BeatOf HeadA w → Option SideFault
client_answer {w = w} es b =
    option_map_or (λ fault. Some (Beat fault)) (fault_after rules_a (asked es) b)
    (if left rules_a w (asked es) == 0
    then (if is_some (open_request b.head.source (marks es)) then Some SourceBusy else None)
    else None)

-- the reason why a response is refused, given the outstanding request of its source
abbrev pub to_request : Option HeadA → HeadD → Option SideFault
to_request None h = Some NoRequest
to_request (Some q) h = if q.size == h.size then None else Some SizeMismatch

-- the reason why the manager's side refuses a beat of D after a history; None if it accepts it
abbrev pub manager_answer : {w : ℕ} → List (Event w) → BeatOf HeadD w → Option SideFault
manager_answer {w = w} es b =
    option_map_or (λ fault. Some (Beat fault)) (fault_after rules_d (answered es) b)
    (if left rules_d w (answered es) == 0
    then (if is_release_ack b.head then None else to_request (open_request b.head.source (marks es)) b.head)
    else None)

-- the home of a message of D that begins after these messages: the address of the outstanding request of its source,
-- and 0 for ReleaseAck
abbrev pub home_after : List Mark → HeadD → ℕ
home_after ms h = cond (is_release_ack h) 0 (option_map_or (λ q. q.address) (open_request h.source ms) 0)

-- the same after a history
abbrev pub manager_home : {w : ℕ} → List (Event w) → HeadD → ℕ
manager_home es h = home_after (marks es) h

-- the homes of the messages of D among messages that begin, one after the other
abbrev pub homes_from : (before ms : List Mark) → List ℕ
homes_from before [] = []
homes_from before (Asks h ∷ ms) = homes_from (before ++ Asks h ∷ []) ms
homes_from before (Answers h ∷ ms) = home_after before h ∷ homes_from (before ++ Answers h ∷ []) ms

-- the homes that the manager's side has given to the messages of D
abbrev pub manager_homes : {w : ℕ} → List (Event w) → List ℕ
manager_homes es = homes_from [] (marks es)
