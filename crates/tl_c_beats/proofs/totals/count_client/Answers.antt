use Rattle.tl_c_beats.proofs.Receipts.{of_client}
use Rattle.tl_c_beats.proofs.totals.count_client.Goals as goal

pub returns-clause-exact : goal.returns-clause-exact
returns-clause-exact g c = λ x h. of_client c.beat_totals.ensures x (c.totals.ensures.exact x h)
