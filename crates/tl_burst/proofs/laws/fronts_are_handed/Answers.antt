use Rattle.tl_burst.proofs.Fronts.{front-handed}
use Rattle.tl_burst.proofs.laws.fronts_are_handed.Goals as goal

pub returns : goal.returns
returns g c = front-handed g.K.Channel.rules g.row.W
