use Rattle.tl_burst.proofs.FaultsExact.{none-handed, laws-of}
use Rattle.tl_burst.proofs.laws.homes_are_kept.Goals as goal

pub returns : goal.returns
returns g c = λ bs homes b home (ms, rest, handed) beat none small.
    none-handed g.K.Channel.rules g.row.W c.requires (laws-of g.met.K.Channel.same_heads g.met.K.Channel.same_is
    g.met.K.Channel.small g.met.K.Channel.partial_carries g.met.K.Channel.masked_address g.met.K.Channel.home_kept) b home handed beat none small
