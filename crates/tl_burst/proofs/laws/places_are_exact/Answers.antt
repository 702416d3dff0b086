use Rattle.tl_burst.proofs.FaultsExact.{laws-of}
use Rattle.tl_burst.proofs.PlacesExact.{places-exact}
use Rattle.tl_burst.proofs.laws.places_are_exact.Goals as goal

pub returns : goal.returns
returns g c = places-exact g.K.Channel.rules g.row.W c.requires (laws-of g.met.K.Channel.same_heads g.met.K.Channel.same_is
    g.met.K.Channel.small g.met.K.Channel.partial_carries g.met.K.Channel.masked_address g.met.K.Channel.home_kept)
