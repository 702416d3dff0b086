use Rattle.tl_c_beats.proofs.Receipts.{of_manager, sent_out, not_sent_out}
use Rattle.tl_c_beats.proofs.totals.finish_manager.Goals as goal

pub returns-then-is_sent_out-clause-sent : goal.returns-then-is_sent_out-clause-sent
returns-then-is_sent_out-clause-sent g c = sent_out c.is_sent_out.result c.is_sent_out.ensures c.if-is_sent_out.true

pub returns-then-is_sent_out-clause-exact : goal.returns-then-is_sent_out-clause-exact
returns-then-is_sent_out-clause-exact g c = λ y h zero. of_manager c.beat_totals.ensures y (c.totals.ensures.exact y h)

pub returns-else-is_sent_out-clause-sent : goal.returns-else-is_sent_out-clause-sent
returns-else-is_sent_out-clause-sent g c = not_sent_out c.is_sent_out.result c.is_sent_out.ensures c.if-is_sent_out.false
