use Rattle.tl_convert.proofs.Names.{sym, ap, ◌∙◌, ChannelLaws, laws-of, IsPlace}
use Rattle.tl_convert.proofs.FeedStep.{place-next}
use Rattle.tl_convert.proofs.converter.Converter.place_is_lawful.Goals as goal

pub returns : goal.returns
returns g c =
    let laws : ChannelLaws g.K.Channel.rules = laws-of g.met.K.Channel.same_heads g.met.K.Channel.same_is
    g.met.K.Channel.small g.met.K.Channel.partial_carries g.met.K.Channel.masked_address g.met.K.Channel.home_kept in
    let place : IsPlace g.K.Channel.rules g.row.W c.self.inside.tracker c.args.place.now =
    place-next g.K.Channel.rules c.requires.width laws
    (record { burst = c.self.inside.tracker; home = c.self.inside.home; partial = c.self.inside.partial }) c.self.invariant
    c.args.beat.now c.args.place.now (rw (← c.self.view_is) at c.requires.place) in
    record {
      place = rw (← c.self.view_is) place;
      small = g.met.K.Channel.small c.args.beat.now.head (ap (λ h. g.K.Channel.rules.fault h) (sym c.requires.place.head) ∙ place.lawful);
    }
