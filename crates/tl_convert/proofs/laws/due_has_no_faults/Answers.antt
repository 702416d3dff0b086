use Rattle.tl_burst.proofs.FaultsExact.{laws-of}
use Rattle.tl_convert.proofs.FarFine.{due_fine}
use Rattle.tl_convert.proofs.laws.due_has_no_faults.Goals as goal

pub returns : goal.returns
returns g c = due_fine g.K.Channel.rules (laws-of g.met.K.Channel.same_heads g.met.K.Channel.same_is g.met.K.Channel.small
    g.met.K.Channel.partial_carries g.met.K.Channel.masked_address g.met.K.Channel.home_kept) g.met.K.Channel.partial_masked c.requires.near
    c.requires.far
