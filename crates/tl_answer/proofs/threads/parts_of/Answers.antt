use Rattle.tl_answer.proofs.Names.{IfOk, ◌≡◌, ◌++◌, ◌∙◌, subst, lit<, far_header, far_lines, taken, report, spelled}
use Rattle.tl_answer.proofs.threads.parts_of.Goals as goal

pub take_far-requires : goal.take_far-requires
take_far-requires g c = (lit< tt, (c.requires.0, c.requires.1, c.in-Ok.ensures.lines))

pub returns-in-Ok-take_far-clause-text : goal.returns-in-Ok-take_far-clause-text
returns-in-Ok-take_far-clause-text g c =
    let far = taken c.args.outcome.now in
    subst (λ v. IfOk c.into_answer.result (λ made. spelled made ≡
    far_header v g.row.C g.row.M ++ far_lines v far ++ report c.args.outcome.now.verdicts))
    (c.in-Ok-take_far.ensures.version ∙ c.in-Ok.ensures.version) (c.into_answer.ensures.text g.row.C g.row.M far c.in-Ok-take_far.ensures.lines)
