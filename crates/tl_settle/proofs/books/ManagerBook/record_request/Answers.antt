use Rattle.std.proofs.Common.{◌==◌, refl, sym, ap, subst, ◌∙◌}
use Rattle.tl_settle.proofs.Names.{rules_a, left, Asks, asked, marks}
use Rattle.tl_settle.proofs.Marks.{asked_ask}
use Rattle.tl_settle.specs.Tables.{AreOpen}
use Rattle.tl_settle.specs.Inner.Noting.{begun_with}
use Rattle.tl_settle.proofs.Noted.{noted_ask}
use Rattle.tl_settle.proofs.books.ManagerBook.record_request.Goals as goal

pub returns : goal.returns
returns g c = λ es b k same.
    let h = rw (← c.self.view_is) at k in
    let first = c.first-first.ensures ∙ ap (λ n. n == 0) h.lacking in
    let noted = ap (λ h. begun_with c.first-first.result (Asks h) (marks es)) (sym same) ∙
    noted_ask es b (asked es) c.first-first.result refl first in
    record {
      requests = subst (λ ms. AreOpen c.note_request.new.requests ms) noted (c.note_request.ensures (marks es) h.requests);
      lacking = c.pass.ensures (asked es) b h.lacking same ∙ ap (λ q. left rules_a g.row.M q) (sym (asked_ask es b));
    }
