-- A link obeys the protocol's rules: each beat of A and of D that it has carried was allowed after the beats before it
-- (TileLink: burst rules, source and size of responses; the moments at which a source is busy and a request is
-- outstanding: this project's choice).
use Rattle.std.specs.Prelude.{◌≡◌, ◌++◌, ◌∷◌, ℕ, None, List}
use Rattle.tl_msg.specs.Tables.{rules_b, rules_c, rules_e}
use Rattle.tl_msg.specs.declared.head.HeadA.{HeadA}
use Rattle.tl_msg.specs.declared.head.HeadD.{HeadD}
use Rattle.tl_msg.specs.declared.beat.BeatOf.{BeatOf}
use Rattle.tl_convert.specs.Laws.{HasNoFaults}
use Rattle.tl_settle.specs.Histories.{Event, Ask, Answer, asked, answered, client_answer, manager_answer}
use Rattle.tl_settle.specs.Outcomes.{Beats, accepted_beats, far_beats}
use Rattle.tl_settle.specs.Rounds.{Run}
use Rattle.tl_settle.specs.Settling.{settled_state}

module _ {w : ℕ} where
  -- each beat of A has no fault, breaks no burst, and opens a message only if its source is not busy
  abbrev pub RequestsObey : List (Event w) → Type 0
  RequestsObey es = (before after : List (Event w)) (b : BeatOf HeadA w) → es ≡ before ++ Ask b ∷ after → client_answer before b ≡ None

  -- each beat of D has no fault, breaks no burst, and opens a message only if the request to which it responds is
  -- outstanding and has its size
  abbrev pub ResponsesObey : List (Event w) → Type 0
  ResponsesObey es = (before after : List (Event w)) (b : BeatOf HeadD w) → es ≡ before ++ Answer b ∷ after → manager_answer before b ≡ None

  -- These are the rules that every offer is held to, on both links: on the client's link requests come in and responses out, on the manager's link
  -- requests go out and responses come in
  pub record ObeysRules (es : List (Event w)) : Type 0 where
    pub requests : RequestsObey es
    pub responses : ResponsesObey es

-- Legal in, legal out, for a whole script. There is one run of both sides that ends at the settled state, and in the
-- order of this run each link obeys the rules: the beats of A and D that it carries, both those that are accepted there
-- and those that come out there. In a run a beat comes out only after the beats that make it due were accepted. No far
-- beat of B, C or E has a fault after the beats before it. So a second bridge after this one is offered only beats that
-- its rules allow
pub record LinksObey {C M : ℕ} (near : Beats C M) : Type 0 where
  pub client : List (Event C)
  pub client_asked : asked client ≡ (accepted_beats near).a
  pub client_answered : answered client ≡ (far_beats near).d
  pub client_obeys : ObeysRules client
  pub manager : List (Event M)
  pub run : let s = settled_state near.a near.d in Run near.a near.d s.a s.d client manager
  pub manager_asked : asked manager ≡ (far_beats near).a
  pub manager_answered : answered manager ≡ (accepted_beats near).d
  pub manager_obeys : ObeysRules manager
  pub b : HasNoFaults rules_b (far_beats near).b
  pub c : HasNoFaults rules_c (far_beats near).c
  pub e : HasNoFaults rules_e (far_beats near).e
