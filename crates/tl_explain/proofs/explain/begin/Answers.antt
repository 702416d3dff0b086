use Rattle.std.proofs.Common.{lit<, ap, ◌∙◌}
use Rattle.tl_settle.specs.Outcomes.{verdicts}
use Rattle.tl_answer.proofs.Answering.{checks-text, near-is}
use Rattle.tl_answer.proofs.Headers.{short}
use Rattle.tl_stream.proofs.Lengths.{lines-few}
use Rattle.tl_explain.proofs.explain.begin.Goals as goal

pub verdicts_of-requires : goal.verdicts_of-requires
verdicts_of-requires g c =
    let told = c.requires.3 in
    let few = lines-few _ _ _ _ told.lines told.told c.requires.2 in
    (lit< tt, (c.requires.0, (c.requires.1, short g.row.C g.row.M told.lines few _ told.script)))

pub returns-clause-ok : goal.returns-clause-ok
returns-clause-ok g c =
    let told = c.requires.3 in
    checks-text c.args.version g.row.C g.row.M told.lines _ told.told c.in_ok-verdicts.verdicts
    (c.in_ok-verdicts.ensures ∙ ap (λ bs. verdicts bs) (near-is told.lines _ told.script)) _ c.in_ok-answer.ensures.text _ c.in_ok-answer.ensures.done
