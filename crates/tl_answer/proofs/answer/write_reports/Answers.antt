use Rattle.tl_answer.proofs.Names.{five_ok}
use Rattle.tl_answer.proofs.Answering.{lines-behind}
use Rattle.tl_answer.proofs.answer.write_reports.Goals as goal

pub returns-clause-text : goal.returns-clause-text
returns-clause-text c = λ a b x d e is.
    five_ok c.write_report-a.result c.write_report-b.result c.write_report-c.result c.write_report-d.result c.write_report-e.result
    c.and.result c.and-2.result c.and-3.result c.and-4.result c.and.ensures c.and-2.ensures c.and-3.ensures c.and-4.ensures
    (λ p q r s t. lines-behind _ _ _ _ _ _ _ _ _ _ _ (rw is at p) (rw is at q) (rw is at r) (rw is at s) (rw is at t))
    c.write_report-a.ensures.ok c.write_report-b.ensures.ok c.write_report-c.ensures.ok c.write_report-d.ensures.ok c.write_report-e.ensures.ok
