use Rattle.tl_ring.proofs.Arriving.{every_beat_arrives}
use Rattle.tl_ring.proofs.laws.every_beat_arrives.Goals as goal

pub returns : goal.returns
returns g c = every_beat_arrives g.K.Channel.rules
