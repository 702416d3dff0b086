use Rattle.std.proofs.Common.{refl, sym, ◌∙◌, subst}
use Rattle.tl_sides.proofs.SameSides.{still_sides}
use Rattle.tl_c.specs.Calls.{HoldsClient, HoldsManager, HoldSides, AreKnown}
use Rattle.tl_c.specs.Settling.{HaveSettled, HaveArrived, AreStill}
use Rattle.tl_c.proofs.Arriving.{beats_arrive}
use Rattle.tl_c.proofs.Counting.{counted}
use Rattle.tl_c.proofs.Keeping.{held_at, kept, kept_none, client_same, manager_same}
use Rattle.tl_c.proofs.Meeting.{not_open, bridge_mismatch, untouched, for_both, sides_held}
use Rattle.tl_c.proofs.Meeting.{answer_no_client, answer_no_manager, answer_others, answer_met, meet_legally}
use Rattle.tl_c.proofs.BothWidths.{widths}
use Rattle.tl_c.proofs.meetings.tl_settle.Goals as goal

pub sides_obey-requires : goal.sides_obey-requires
sides_obey-requires c = record { client = widths.0; manager = widths.1 }

pub returns-in_default : goal.returns-in_default
returns-in_default c =
    let client = c.in_default.ensures.none refl in
    record {
      answer = answer_no_client _ _ client;
      settled = λ x y h k zero. not_open zero;
      arrived = λ x y h k zero. not_open zero;
      still = λ zero. not_open zero;
      known = λ zero. not_open zero;
      counts = λ zero. not_open zero;
      sides = λ zero. not_open zero;
      kept = (kept_none _ client c.take.ensures.after c.take.ensures.number, untouched _);
      same = λ not. (c.take.ensures.after ∙ sym client, refl, refl);
    }

pub returns-in_default-take : goal.returns-in_default-take
returns-in_default-take c =
    let client = c.in-Some.ensures.some in
    let manager = c.in_default-take.ensures.none refl in
    record {
      answer = answer_no_manager _ _ manager;
      settled = λ x y h k zero. not_open zero;
      arrived = λ x y h k zero. not_open zero;
      still = λ zero. not_open zero;
      known = λ zero. not_open zero;
      counts = λ zero. not_open zero;
      sides = λ zero. not_open zero;
      kept = (
        kept _ client c.put.ensures.held (client_same _) c.take.ensures.number c.put.ensures.number,
        kept_none _ manager c.take-2.ensures.after c.take-2.ensures.number,
      );
      same = λ not. (c.put.ensures.held ∙ sym client, c.take-2.ensures.after ∙ sym manager, refl);
    }

pub returns-then-not-is : goal.returns-then-not-is
returns-then-not-is c =
    let client = c.in-Some.ensures.some in
    let manager = c.in-Some-take.ensures.some in
    let put = c.put-then-not-is.ensures in
    let put_2 = c.put-then-not-is-2.ensures in
    record {
      answer = answer_others client manager c.take.ensures.number c.take-2.ensures.number c.is.ensures.result c.if-not-is.true;
      settled = λ x y h k zero. bridge_mismatch zero;
      arrived = λ x y h k zero. bridge_mismatch zero;
      still = λ zero. bridge_mismatch zero;
      known = λ zero. bridge_mismatch zero;
      counts = λ zero. bridge_mismatch zero;
      sides = λ zero. bridge_mismatch zero;
      kept = (
        kept _ client put.held (client_same _) c.take.ensures.number put.number,
        kept _ manager put_2.held (manager_same _) c.take-2.ensures.number put_2.number,
      );
      same = λ not. (put.held ∙ sym client, put_2.held ∙ sym manager, refl);
    }

pub returns : goal.returns
returns c =
    let settled = c.settle-standings in
    let client = held_at c.in-Some.ensures.some c.deref_mut.ensures.value in
    let manager = held_at c.in-Some-take.ensures.some c.deref_mut-2.ensures.value in
    let numbers = sym c.take.ensures.number ∙ c.is.ensures.same c.if-not-is.false ∙ c.take-2.ensures.number in
    let client_now = c.put-2.ensures.held in
    let manager_now = c.put-3.ensures.held in
    record {
      answer = answer_met client manager c.take.ensures.number c.take-2.ensures.number c.is.ensures.result c.if-not-is.false;
      settled = λ x y h k zero.
          let settles = settled.ensures.settled x y (subst (λ s. HoldsClient s x) client h) (subst (λ t. HoldsManager t y) manager k) in
          for_both (λ s t. HaveSettled s t x y) client_now manager_now
          (record { settles = settles; legal = meet_legally c.sides_obey.ensures settles.meets });
      arrived = λ x y h k zero.
          let settles = settled.ensures.settled x y (subst (λ s. HoldsClient s x) client h) (subst (λ t. HoldsManager t y) manager k) in
          for_both (λ s t. HaveArrived s t x y) client_now manager_now (beats_arrive settles settled.ensures.still);
      still = λ zero. for_both AreStill client_now manager_now settled.ensures.still;
      known = λ zero. for_both AreKnown client_now manager_now settled.ensures.known;
      counts = λ zero. counted {s = record { side = settled.new.client }} {t = record { side = settled.new.manager }} client_now manager_now
          c.channel_counts.ensures settled.ensures.standing_a settled.ensures.standing_b settled.ensures.standing_c
          settled.ensures.standing_d settled.ensures.standing_e;
      sides = λ zero. for_both HoldSides client_now manager_now
          (still_sides _ _ _ _ settled.ensures.client settled.ensures.manager (sides_held client manager (c.requires numbers)));
      kept = (
        kept _ {h = c.deref_mut.result.now} {k = record { side = settled.new.client }} client client_now settled.ensures.client
            c.take.ensures.number c.put-2.ensures.number,
        kept _ {h = c.deref_mut-2.result.now} {k = record { side = settled.new.manager }} manager manager_now settled.ensures.manager
            c.take-2.ensures.number c.put-3.ensures.number,
      );
      same = λ not. absurd (not refl);
    }
