use Rattle.tl_answer.proofs.Names.{◌++◌, ◌∙◌, ap, report}
use Rattle.tl_answer.proofs.Answering.{with-report}
use Rattle.tl_answer.proofs.answer.check_of.Goals as goal

pub returns-in-Ok-write_reports-clause-text : goal.returns-in-Ok-write_reports-clause-text
returns-in-Ok-write_reports-clause-text c =
    with-report c.args.verdicts.now c.in-Ok-write_reports.ensures.five _ _ c.in-Ok-write_reports.ensures.text ∙
    ap (λ line. line ++ report c.args.verdicts.now) c.in-Ok.ensures
