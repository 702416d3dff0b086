use Rattle.tl_c_beats.proofs.Receipts.{of_manager}
use Rattle.tl_c_beats.proofs.totals.count_manager.Goals as goal

pub returns-clause-exact : goal.returns-clause-exact
returns-clause-exact g c = λ y h. of_manager c.beat_totals.ensures y (c.totals.ensures.exact y h)
