use Rattle.std.proofs.Common.{◌≡◌, ◌==◌, refl, sym, ap, subst, ◌∙◌}
use Rattle.std.specs.Prelude.{Some, IfOk, IfErr}
use Rattle.tl_settle.proofs.Names.{rules_a, rules_d, left, fault_after, equal_true, Answers, answered, marks, home_after}
use Rattle.tl_settle.proofs.Marks.{asked_answer}
use Rattle.tl_settle.specs.Books.{IsNext}
use Rattle.tl_settle.specs.Tables.{AreOpen}
use Rattle.tl_settle.specs.Inner.Noting.{begun_with, stops_response}
use Rattle.tl_settle.proofs.Answering.{manager_fault, manager_stops, manager_none, stopped}
use Rattle.tl_settle.proofs.Between.{opens}
use Rattle.tl_settle.proofs.Noted.{noted_answer}
use Rattle.tl_settle.proofs.books.ManagerBook.admit.Goals as goal

pub returns-in-Err-clause-admits : goal.returns-in-Err-clause-admits
returns-in-Err-clause-admits g c = record {
  admitted = λ es b k said.
      stopped (manager_fault es b _ (subst (λ q. IfErr q (λ f. fault_after rules_d (answered es) b ≡ Some f)) c.in-Err.is said.fault));
  noted = λ es b k said. tt;
  fault = λ es b k said. manager_fault es b _ (subst (λ q. IfErr q (λ f. fault_after rules_d (answered es) b ≡ Some f)) c.in-Err.is said.fault);
  refused = refl;
}

pub returns-in-Err-ask_for_home-clause-admits : goal.returns-in-Err-ask_for_home-clause-admits
returns-in-Err-ask_for_home-clause-admits g c = record {
  admitted = λ es b k said.
      let h = rw (← c.self.view_is) at k in
      let next = subst (λ q. IfOk q (IsNext rules_d (answered es) b)) c.in-Ok.is said.place in
      let r = c.in-Err-ask_for_home.ensures.refused (marks es) h.requests in
      let says = ap (λ q. stops_response (marks es) q) (sym next.is_place.head) ∙ r.1 in
      stopped (manager_stops es b (c.in-Ok.place.index == 0) _ (opens rules_d (answered es) b c.in-Ok.place next) next.is_place.accepted r.0 says);
  noted = λ es b k said. tt;
  fault = λ es b k said.
      let h = rw (← c.self.view_is) at k in
      let next = subst (λ q. IfOk q (IsNext rules_d (answered es) b)) c.in-Ok.is said.place in
      let r = c.in-Err-ask_for_home.ensures.refused (marks es) h.requests in
      let says = ap (λ q. stops_response (marks es) q) (sym next.is_place.head) ∙ r.1 in
      manager_stops es b (c.in-Ok.place.index == 0) _ (opens rules_d (answered es) b c.in-Ok.place next) next.is_place.accepted r.0 says;
  refused = refl;
}

pub returns-clause-admits : goal.returns-clause-admits
returns-clause-admits g c = record {
  admitted = λ es b k said.
      let h = rw (← c.self.view_is) at k in
      let next = subst (λ q. IfOk q (IsNext rules_d (answered es) b)) c.in-Ok.is said.place in
      let home = c.in-Ok-ask_for_home.ensures.home (marks es) h.requests in (
        λ ok. manager_none es b (c.in-Ok.place.index == 0) (opens rules_d (answered es) b c.in-Ok.place next) next.is_place.accepted
            (λ begins. ap (λ q. stops_response (marks es) q) (sym next.is_place.head) ∙ (home begins).0),
        λ none. refl,
      );
  noted = λ es b k said.
      let h = rw (← c.self.view_is) at k in
      let next = subst (λ q. IfOk q (IsNext rules_d (answered es) b)) c.in-Ok.is said.place in
      let noted = ap (λ q. begun_with (c.in-Ok.place.index == 0) (Answers q) (marks es)) next.is_place.head ∙
      noted_answer es b (answered es) (c.in-Ok.place.index == 0) refl (opens rules_d (answered es) b c.in-Ok.place next) in
      record {
        requests = subst (λ ms. AreOpen c.note_response.new.requests ms) noted (c.note_response.ensures (marks es) h.requests);
        lacking = h.lacking ∙ ap (λ q. left rules_a g.row.M q) (sym (asked_answer es b));
      };
  fault = λ es b k said. tt;
  refused = tt;
}

pub returns-clause-home : goal.returns-clause-home
returns-clause-home g c = λ es b k said between.
    let h = rw (← c.self.view_is) at k in
    let next = subst (λ q. IfOk q (IsNext rules_d (answered es) b)) c.in-Ok.is said.place in
    let begins = opens rules_d (answered es) b c.in-Ok.place next ∙ equal_true (left rules_d g.row.M (answered es)) 0 between in
    (c.in-Ok-ask_for_home.ensures.home (marks es) h.requests begins).1 ∙ ap (λ q. home_after (marks es) q) next.is_place.head
