use Rattle.tl_convert.proofs.Names.{ChannelLaws, laws-of}
use Rattle.tl_convert.proofs.AcceptedLaw.{accepted-is}
use Rattle.tl_convert.proofs.laws.accepted_is_longest.Goals as goal

pub returns : goal.returns
returns g c =
    let laws : ChannelLaws g.K.Channel.rules = laws-of g.met.K.Channel.same_heads g.met.K.Channel.same_is
    g.met.K.Channel.small g.met.K.Channel.partial_carries g.met.K.Channel.masked_address g.met.K.Channel.home_kept in
    λ bs beats. accepted-is g.K.Channel.rules c.requires.near laws bs beats
