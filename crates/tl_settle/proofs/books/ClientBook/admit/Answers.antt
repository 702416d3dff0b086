use Rattle.std.proofs.Common.{◌≡◌, ◌==◌, true, false, refl, sym, ap, subst, ◌∙◌}
use Rattle.std.specs.Prelude.{Some, IfOk, IfErr}
use Rattle.tl_settle.proofs.Names.{rules_a, rules_d, left, fault_after, Asks, asked, marks}
use Rattle.tl_settle.proofs.Marks.{answered_ask}
use Rattle.tl_settle.specs.Books.{IsNext}
use Rattle.tl_settle.specs.Tables.{AreBusy}
use Rattle.tl_settle.specs.Inner.Noting.{begun_with}
use Rattle.tl_settle.proofs.Answering.{client_fault, client_says, stopped}
use Rattle.tl_settle.proofs.Between.{opens}
use Rattle.tl_settle.proofs.Noted.{noted_ask}
use Rattle.tl_settle.proofs.books.ClientBook.admit.Goals as goal

pub returns-in-Err-clause-admits : goal.returns-in-Err-clause-admits
returns-in-Err-clause-admits g c = record {
  admitted = λ es b k said.
      stopped (client_fault es b _ (subst (λ q. IfErr q (λ f. fault_after rules_a (asked es) b ≡ Some f)) c.in-Err.is said.fault));
  noted = λ es b k said. tt;
  fault = λ es b k said. client_fault es b _ (subst (λ q. IfErr q (λ f. fault_after rules_a (asked es) b ≡ Some f)) c.in-Err.is said.fault);
  refused = refl;
}

pub returns-then-is_taken-clause-admits : goal.returns-then-is_taken-clause-admits
returns-then-is_taken-clause-admits g c = record {
  admitted = λ es b k said.
      let h = rw (← c.self.view_is) at k in
      let next = subst (λ q. IfOk q (IsNext rules_a (asked es) b)) c.in-Ok.is said.place in
      stopped (client_says es b c.in-Ok.place true next (sym c.if-is_taken.true ∙ c.is_taken.ensures (marks es) h.sources));
  noted = λ es b k said. tt;
  fault = λ es b k said.
      let h = rw (← c.self.view_is) at k in
      let next = subst (λ q. IfOk q (IsNext rules_a (asked es) b)) c.in-Ok.is said.place in
      client_says es b c.in-Ok.place true next (sym c.if-is_taken.true ∙ c.is_taken.ensures (marks es) h.sources);
  refused = refl;
}

pub returns-clause-admits : goal.returns-clause-admits
returns-clause-admits g c = record {
  admitted = λ es b k said.
      let h = rw (← c.self.view_is) at k in
      let next = subst (λ q. IfOk q (IsNext rules_a (asked es) b)) c.in-Ok.is said.place in
      (λ ok. client_says es b c.in-Ok.place false next (sym c.if-is_taken.false ∙ c.is_taken.ensures (marks es) h.sources), λ none. refl);
  noted = λ es b k said.
      let h = rw (← c.self.view_is) at k in
      let next = subst (λ q. IfOk q (IsNext rules_a (asked es) b)) c.in-Ok.is said.place in
      let noted = ap (λ q. begun_with (c.in-Ok.place.index == 0) (Asks q) (marks es)) next.is_place.head ∙
      noted_ask es b (asked es) (c.in-Ok.place.index == 0) refl (opens rules_a (asked es) b c.in-Ok.place next) in
      record {
        sources = subst (λ ms. AreBusy c.note_asked.new.sources ms) noted (c.note_asked.ensures (marks es) h.sources);
        lacking = h.lacking ∙ ap (λ q. left rules_d g.row.C q) (sym (answered_ask es b));
      };
  fault = λ es b k said. tt;
  refused = tt;
}
