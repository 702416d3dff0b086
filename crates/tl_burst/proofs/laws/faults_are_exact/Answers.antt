use Rattle.tl_burst.proofs.FaultsExact.{faults-exact, laws-of}
use Rattle.tl_burst.proofs.laws.faults_are_exact.Goals as goal

pub returns : goal.returns
returns g c = faults-exact g.K.Channel.rules g.row.W c.requires (laws-of g.met.K.Channel.same_heads g.met.K.Channel.same_is
    g.met.K.Channel.small g.met.K.Channel.partial_carries g.met.K.Channel.masked_address g.met.K.Channel.home_kept)
