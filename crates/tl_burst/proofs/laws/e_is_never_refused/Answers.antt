use Rattle.tl_burst.proofs.GrantAcks.{never-refused}
use Rattle.tl_burst.proofs.laws.e_is_never_refused.Goals as goal

pub returns : goal.returns
returns g c = never-refused g.row.W
