use Rattle.std.proofs.Common.{◌==◌, refl, sym, ap, subst, ◌∙◌}
use Rattle.tl_settle.proofs.Names.{rules_d, left, Answers, answered, marks}
use Rattle.tl_settle.proofs.Marks.{answered_answer}
use Rattle.tl_settle.specs.Tables.{AreBusy}
use Rattle.tl_settle.specs.Inner.Noting.{begun_with}
use Rattle.tl_settle.proofs.Noted.{noted_answer}
use Rattle.tl_settle.proofs.books.ClientBook.record_response.Goals as goal

pub returns : goal.returns
returns g c = λ es b k same.
    let h = rw (← c.self.view_is) at k in
    let first = c.first-first.ensures ∙ ap (λ n. n == 0) h.lacking in
    let noted = ap (λ h. begun_with c.first-first.result (Answers h) (marks es)) (sym same) ∙
    noted_answer es b (answered es) c.first-first.result refl first in
    record {
      sources = subst (λ ms. AreBusy c.note_answered.new.sources ms) noted (c.note_answered.ensures (marks es) h.sources);
      lacking = c.pass.ensures (answered es) b h.lacking same ∙ ap (λ q. left rules_d g.row.C q) (sym (answered_answer es b));
    }
