use Rattle.tl_ring.proofs.Soon.{how_soon}
use Rattle.tl_ring.proofs.laws.how_soon.Goals as goal

pub returns : goal.returns
returns g c = how_soon g.K.Channel.rules
