use Rattle.std.proofs.Common.{ap₂}
use Rattle.tl_stream.specs.Outputs.{AppendsPart}
use Rattle.tl_answer.proofs.Names.{subst, ◌++◌, Appends}
use Rattle.tl_answer.proofs.Writing.{begun-ab, begun-cd, begun-e, five-out, on-err}
use Rattle.tl_answer.proofs.text.write_answer.Goals as goal

pub returns-clause-text : goal.returns-clause-text
returns-clause-text g c =
    let answer = c.args.answer.now in
    five-out _ _ _ _ answer.a.items answer.b.items answer.c.items answer.d.items answer.e.items
    (subst (Appends _ _) (ap₂ (λ x y. x ++ y) c.deref.ensures.value c.deref-2.ensures.value) c.in_ok-write_both.ensures.all)
    (subst (Appends _ _) (ap₂ (λ x y. x ++ y) c.deref-3.ensures.value c.deref-4.ensures.value) c.in_ok-write_both-2.ensures.all)
    (subst (Appends _ _) c.deref-5.ensures.value c.in_ok-write_all.ensures.all)

pub returns-in_err-write_both-clause-part : goal.returns-in_err-write_both-clause-part
returns-in_err-write_both-clause-part g c =
    let answer = c.args.answer.now in
    on-err c.from_residual.result (begun-ab answer.a.items answer.b.items answer.c.items answer.d.items answer.e.items
    (subst (AppendsPart _ _) (ap₂ (λ x y. x ++ y) c.deref.ensures.value c.deref-2.ensures.value) c.in_err-write_both.ensures.part))

pub returns-in_err-write_both-2-clause-part : goal.returns-in_err-write_both-2-clause-part
returns-in_err-write_both-2-clause-part g c =
    let answer = c.args.answer.now in
    on-err c.from_residual-in_err-write_both-2.result (begun-cd answer.a.items answer.b.items answer.c.items answer.d.items answer.e.items
    (subst (Appends _ _) (ap₂ (λ x y. x ++ y) c.deref.ensures.value c.deref-2.ensures.value) c.in_ok-write_both.ensures.all)
    (subst (AppendsPart _ _) (ap₂ (λ x y. x ++ y) c.deref-3.ensures.value c.deref-4.ensures.value) c.in_err-write_both-2.ensures.part))

pub returns-in_err-write_all-clause-part : goal.returns-in_err-write_all-clause-part
returns-in_err-write_all-clause-part g c =
    let answer = c.args.answer.now in
    on-err c.from_residual-in_err-write_all.result (begun-e answer.a.items answer.b.items answer.c.items answer.d.items answer.e.items _
    (subst (Appends _ _) (ap₂ (λ x y. x ++ y) c.deref.ensures.value c.deref-2.ensures.value) c.in_ok-write_both.ensures.all)
    (subst (Appends _ _) (ap₂ (λ x y. x ++ y) c.deref-3.ensures.value c.deref-4.ensures.value) c.in_ok-write_both-2.ensures.all)
    (subst (AppendsPart _ _) c.deref-5.ensures.value c.in_err-write_all.ensures.part))
