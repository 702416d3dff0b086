use Rattle.std.proofs.Common.{refl, sym, ◌∙◌, subst}
use Rattle.tl_c_beats.proofs.Rounds.{met_known}
use Rattle.tl_c.specs.Calls.{HoldsClient, HoldsManager, HoldSides, HaveMet, AreKnown}
use Rattle.tl_c.proofs.Counting.{counted}
use Rattle.tl_c.proofs.Keeping.{held_at, kept, kept_none, client_same, manager_same}
use Rattle.tl_c.proofs.Meeting.{not_open, bridge_mismatch, unmoved, client_stays, manager_stays, for_both, answer_no_client, answer_no_manager, answer_others, answer_met}
use Rattle.tl_c.proofs.Meeting.{meet_legally}
use Rattle.tl_c.proofs.BothWidths.{widths}
use Rattle.tl_c.proofs.meetings.tl_meet.Goals as goal

pub sides_obey-requires : goal.sides_obey-requires
sides_obey-requires c = record { client = widths.0; manager = widths.1 }

pub returns-in_default : goal.returns-in_default
returns-in_default c =
    let client = c.in_default.ensures.none refl in
    record {
      answer = answer_no_client _ _ client;
      met = λ x y h k zero. not_open zero;
      known = λ zero. not_open zero;
      counts = λ zero. not_open zero;
      sides = λ zero. not_open zero;
      kept = (kept_none _ client c.take.ensures.after c.take.ensures.number, unmoved _);
      same = λ not. (c.take.ensures.after ∙ sym client, refl, refl);
    }

pub returns-in_default-take : goal.returns-in_default-take
returns-in_default-take c =
    let client = c.in-Some.ensures.some in
    let manager = c.in_default-take.ensures.none refl in
    record {
      answer = answer_no_manager _ _ manager;
      met = λ x y h k zero. not_open zero;
      known = λ zero. not_open zero;
      counts = λ zero. not_open zero;
      sides = λ zero. not_open zero;
      kept = (
        kept _ client c.put.ensures.held (client_same _, client_stays _) c.take.ensures.number c.put.ensures.number,
        kept_none _ manager c.take-2.ensures.after c.take-2.ensures.number,
      );
      same = λ not. (c.put.ensures.held ∙ sym client, c.take-2.ensures.after ∙ sym manager, refl);
    }

pub returns-then-not-is : goal.returns-then-not-is
returns-then-not-is c =
    let client = c.in-Some.ensures.some in
    let manager = c.in-Some-take.ensures.some in
    let put = c.put-then-not-is.ensures in
    let put_2 = c.put-then-not-is-2.ensures in
    record {
      answer = answer_others client manager c.take.ensures.number c.take-2.ensures.number c.is.ensures.result c.if-not-is.true;
      met = λ x y h k zero. bridge_mismatch zero;
      known = λ zero. bridge_mismatch zero;
      counts = λ zero. bridge_mismatch zero;
      sides = λ zero. bridge_mismatch zero;
      kept = (
        kept _ client put.held (client_same _, client_stays _) c.take.ensures.number put.number,
        kept _ manager put_2.held (manager_same _, manager_stays _) c.take-2.ensures.number put_2.number,
      );
      same = λ not. (put.held ∙ sym client, put_2.held ∙ sym manager, refl);
    }

pub returns : goal.returns
returns c =
    let met = c.meet_sides-standings in
    let client = held_at c.in-Some.ensures.some c.deref_mut.ensures.value in
    let manager = held_at c.in-Some-take.ensures.some c.deref_mut-2.ensures.value in
    let client_now = c.put-2.ensures.held in
    let manager_now = c.put-3.ensures.held in
    record {
      answer = answer_met client manager c.take.ensures.number c.take-2.ensures.number c.is.ensures.result c.if-not-is.false;
      met = λ x y h k zero. for_both (λ s t. HaveMet s t x y) client_now manager_now (meet_legally c.sides_obey.ensures
          (met.ensures.meets x y (subst (λ s. HoldsClient s x) client h) (subst (λ t. HoldsManager t y) manager k)));
      known = λ zero. for_both AreKnown client_now manager_now (record {
        a = met_known met.ensures.a;
        b = met_known met.ensures.b;
        c = met_known met.ensures.c;
        d = met_known met.ensures.d;
        e = met_known met.ensures.e;
      });
      counts = λ zero. counted {s = record { side = met.new.client }} {t = record { side = met.new.manager }} client_now manager_now
          c.channel_counts.ensures met.ensures.standing_a met.ensures.standing_b met.ensures.standing_c met.ensures.standing_d met.ensures.standing_e;
      sides = λ zero. for_both HoldSides client_now manager_now (record {
        a = met.ensures.a.pair;
        b = met.ensures.b.pair;
        c = met.ensures.c.pair;
        d = met.ensures.d.pair;
        e = met.ensures.e.pair;
      });
      kept = (
        kept _ {h = c.deref_mut.result.now} {k = record { side = met.new.client }} client client_now (
          record {
            a = met.ensures.a.send;
            b = met.ensures.b.take;
            c = met.ensures.c.send;
            d = met.ensures.d.take;
            e = met.ensures.e.send;
          },
          record {
            a = (met.ensures.a.same_stage, met.ensures.a.same_closed, met.ensures.a.same_sent);
            b = (met.ensures.b.same_inbox, met.ensures.b.same_received);
            c = (met.ensures.c.same_stage, met.ensures.c.same_closed, met.ensures.c.same_sent);
            d = (met.ensures.d.same_inbox, met.ensures.d.same_received);
            e = (met.ensures.e.same_stage, met.ensures.e.same_closed, met.ensures.e.same_sent);
            book = met.ensures.books.0;
          },
        ) c.take.ensures.number c.put-2.ensures.number,
        kept _ {h = c.deref_mut-2.result.now} {k = record { side = met.new.manager }} manager manager_now (
          record {
            a = met.ensures.a.take;
            b = met.ensures.b.send;
            c = met.ensures.c.take;
            d = met.ensures.d.send;
            e = met.ensures.e.take;
          },
          record {
            a = (met.ensures.a.same_inbox, met.ensures.a.same_received);
            b = (met.ensures.b.same_stage, met.ensures.b.same_closed, met.ensures.b.same_sent);
            c = (met.ensures.c.same_inbox, met.ensures.c.same_received);
            d = (met.ensures.d.same_stage, met.ensures.d.same_closed, met.ensures.d.same_sent);
            e = (met.ensures.e.same_inbox, met.ensures.e.same_received);
            book = met.ensures.books.1;
          },
        ) c.take-2.ensures.number c.put-3.ensures.number,
      );
      same = λ not. absurd (not refl);
    }
