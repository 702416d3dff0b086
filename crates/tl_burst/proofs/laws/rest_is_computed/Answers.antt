use Rattle.tl_burst.proofs.RestOf.{RestIs}
use Rattle.tl_burst.proofs.laws.rest_is_computed.Goals as goal

pub returns : goal.returns
returns g c = λ bs homes ms rest handed. RestIs g.K.Channel.rules g.row.W handed
