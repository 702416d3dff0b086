use Rattle.tl_burst.proofs.PlacesExact.{place-told}
use Rattle.tl_convert.proofs.Names.{ChannelLaws, laws-of}
use Rattle.tl_convert.proofs.FeedStep.{is-handed}
use Rattle.tl_convert.proofs.converter.Converter.check.Goals as goal

pub returns-clause-fault : goal.returns-clause-fault
returns-clause-fault g c = λ bs homes k.
    let stands = rw (← c.self.view_is) at k in
    c.check.ensures.first_fault bs stands.burst_is

pub returns-clause-index : goal.returns-clause-index
returns-clause-index g c = λ bs homes k.
    let stands = rw (← c.self.view_is) at k in
    c.check.ensures.index bs stands.burst_is

pub returns-clause-admitted : goal.returns-clause-admitted
returns-clause-admitted g c = λ bs homes k.
    let stands = rw (← c.self.view_is) at k in
    c.check.ensures.admitted bs (is-handed stands.handed) stands.burst_is

pub returns-clause-place : goal.returns-clause-place
returns-clause-place g c =
    let laws : ChannelLaws g.K.Channel.rules = laws-of g.met.K.Channel.same_heads g.met.K.Channel.same_is
    g.met.K.Channel.small g.met.K.Channel.partial_carries g.met.K.Channel.masked_address g.met.K.Channel.home_kept in
    rw (← c.self.view_is)
    (place-told g.K.Channel.rules g.row.W c.requires laws c.self.inside.tracker c.args.beat.now c.check.result c.check.ensures.accepts
    c.check.ensures.head c.check.ensures.place)
