-- The result of a side for a beat, from the beat's fault, whether it opens a message, and the side's history of its
-- source.
use Rattle.std.proofs.Common.{rules, ◌≡◌, ℕ, Bool, true, false, cond, Option, None, Some, List, refl, sym, ap, ◌∙◌}
use Rattle.std.specs.Prelude.{◌==◌, ◌↔◌}
use Rattle.std.proofs.lemmas.Bool.{false≢true}
use Rattle.std.proofs.lemmas.Option.{none-some}
use Rattle.std.specs.Option.{option_map_or, is_some}
use Rattle.tl_settle.proofs.Names.{rules_a, rules_d, HeadA, HeadD, BeatOf, BeatFault, SideFault, Beat, SourceBusy, left, fault_after, Place}
use Rattle.tl_settle.proofs.Names.{is_release_ack, Event, Mark, asked, answered, marks, open_request, to_request, home_after, client_answer}
use Rattle.tl_settle.proofs.Names.{manager_answer}
use Rattle.tl_settle.specs.declared.tables.Request.{Request}
use Rattle.tl_settle.specs.Tables.{remembered_of}
use Rattle.tl_settle.specs.Books.{IsNext}
use Rattle.tl_settle.specs.Inner.Noting.{stops_response}
use Rattle.tl_settle.proofs.Between.{opens}

-- a beat that something stops is no Ok
pub stopped : {A : Type 0} {o : Option A} {x : A} → o ≡ Some x → (false ≡ true) ↔ (o ≡ None)
stopped {x = x} stops = (λ ok. absurd (false≢true ok), λ none. absurd (none-some x (sym none ∙ stops)))

-- the beat's fault comes first and then, if it opens a message, the result of the side
abbrev gate : Option BeatFault → (opens : Bool) → Option SideFault → Option SideFault
gate fault opens side = option_map_or (λ f. Some (Beat f)) fault (cond opens side None)

gate_fault : (fault : Option BeatFault) (opens : Bool) (side : Option SideFault) (f : BeatFault) → fault ≡ Some f →
    gate fault opens side ≡ Some (Beat f)
gate_fault fault opens side f e = ap (λ x. gate x opens side) e

gate_side : (fault : Option BeatFault) (opens : Bool) (side : Option SideFault) (f : SideFault) → fault ≡ None → opens ≡ true → side ≡ Some f →
    gate fault opens side ≡ Some f
gate_side fault opens side f none first e = ap (λ x. gate x opens side) none ∙ ap (λ x. gate None x side) first ∙ e

gate_none : (fault : Option BeatFault) (opens : Bool) (side : Option SideFault) → fault ≡ None → (opens ≡ true → side ≡ None) →
    gate fault opens side ≡ None
gate_none fault true side none free = ap (λ x. gate x true side) none ∙ free refl
gate_none fault false side none free = ap (λ x. gate x false side) none

abbrev busy_fault : Bool → Option SideFault
busy_fault busy = cond busy (Some SourceBusy) None

gate_busy : (fault : Option BeatFault) (opens first busy : Bool) → fault ≡ None → opens ≡ first →
    gate fault opens (busy_fault busy) ≡ busy_fault (cond first busy false)
gate_busy fault opens true busy none same = ap (λ x. gate x opens (busy_fault busy)) none ∙ ap (λ x. gate None x (busy_fault busy)) same
gate_busy fault opens false busy none same = ap (λ x. gate x opens (busy_fault busy)) none ∙ ap (λ x. gate None x (busy_fault busy)) same

-- the client's side
pub client_fault : {w : ℕ} (es : List (Event w)) (b : BeatOf HeadA w) (f : BeatFault) → fault_after rules_a (asked es) b ≡ Some f →
    client_answer es b ≡ Some (Beat f)
client_fault {w} es b f e =
    gate_fault (fault_after rules_a (asked es) b) (left rules_a w (asked es) == 0) (busy_fault (is_some (open_request b.head.source (marks es)))) f e

-- and the result of its book, from whether the source of a first beat is busy
pub client_says : {K : Type 0} {w : ℕ} (es : List (Event w)) (b : BeatOf HeadA w) (place : Place K HeadA) (busy : Bool) →
    IsNext rules_a (asked es) b place →
    busy ≡ cond (place.index == 0) (is_some (open_request place.head.source (marks es))) false → client_answer es b ≡ busy_fault busy
client_says {w = w} es b place busy next says =
    gate_busy (fault_after rules_a (asked es) b) (left rules_a w (asked es) == 0) (place.index == 0) (is_some (open_request b.head.source (marks es)))
    next.is_place.accepted (sym (opens rules_a (asked es) b place next)) ∙
    ap busy_fault (ap (λ h. cond (place.index == 0) (is_some (open_request h.source (marks es))) false) (sym next.is_place.head) ∙ sym says)

-- the manager's side
module _ {w : ℕ} (es : List (Event w)) (b : BeatOf HeadD w) where
  pub manager_fault : (f : BeatFault) → fault_after rules_d (answered es) b ≡ Some f → manager_answer es b ≡ Some (Beat f)
  manager_fault f e =
      gate_fault (fault_after rules_d (answered es) b) (left rules_d w (answered es) == 0) (stops_response (marks es) b.head) f e

  pub manager_stops : (first : Bool) (f : SideFault) → first ≡ (left rules_d w (answered es) == 0) → fault_after rules_d (answered es) b ≡ None →
      first ≡ true → stops_response (marks es) b.head ≡ Some f → manager_answer es b ≡ Some f
  manager_stops first f opens none begins stops =
      gate_side (fault_after rules_d (answered es) b) (left rules_d w (answered es) == 0) (stops_response (marks es) b.head) f none
      (sym opens ∙ begins) stops

  pub manager_none : (first : Bool) → first ≡ (left rules_d w (answered es) == 0) → fault_after rules_d (answered es) b ≡ None →
      (first ≡ true → stops_response (marks es) b.head ≡ None) → manager_answer es b ≡ None
  manager_none first opens none free =
      gate_none (fault_after rules_d (answered es) b) (left rules_d w (answered es) == 0) (stops_response (marks es) b.head) none
      (λ begins. free (opens ∙ begins))

-- a response whose source has an open request, of which this is remembered
to_none : (o : Option HeadA) (h : HeadD) (q : Request) → remembered_of o ≡ Some q → q.size ≡ h.size → to_request o h ≡ None
to_none None h q is same = absurd (cc is)
to_none (Some a) h q is same = search rules

to_home : (o : Option HeadA) (q : Request) → remembered_of o ≡ Some q → q.address ≡ option_map_or (λ a. a.address) o 0
to_home None q is = absurd (cc is)
to_home (Some a) q is = search rules

module _ (ms : List Mark) (h : HeadD) (other : is_release_ack h ≡ false) (q : Request) (is : remembered_of (open_request h.source ms) ≡ Some q) where
  pub answers_request : q.size ≡ h.size → stops_response ms h ≡ None
  answers_request same = ap (λ b. cond b None (to_request (open_request h.source ms) h)) other ∙ to_none (open_request h.source ms) h q is same

  pub home_of_request : q.address ≡ home_after ms h
  home_of_request = to_home (open_request h.source ms) q is ∙ ap (λ b. cond b 0 (option_map_or (λ a. a.address) (open_request h.source ms) 0))
      (sym other)
