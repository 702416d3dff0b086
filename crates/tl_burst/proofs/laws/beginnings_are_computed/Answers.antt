use Rattle.tl_burst.proofs.Burst.{some-beats}
use Rattle.tl_burst.proofs.BegunMessages.{heads-handed, left-zero}
use Rattle.tl_burst.proofs.laws.beginnings_are_computed.Goals as goal

pub returns : goal.returns
returns g c = record {
  heads = λ bs homes ms rest handed.
      heads-handed g.K.Channel.rules g.row.W (λ h. some-beats g.K.Channel.rules h g.row.W c.requires) handed;
  left = λ bs handed. left-zero g.K.Channel.rules g.row.W handed.handed;
}
