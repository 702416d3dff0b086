use Rattle.tl_burst.proofs.Names.{refl, sym, ap, subst, ◌∙◌, IsOpen, count_in}
use Rattle.tl_burst.proofs.Holding.{held-beats}
use Rattle.tl_burst.proofs.Steps.{place-is}
use Rattle.tl_burst.proofs.tracker.Tracker.place.Goals as goal

pub returns-in-Some : goal.returns-in-Some
returns-in-Some g c = record {
  head = refl;
  place = place-is g.K.Channel.rules g.row.W c.args.self.now c.args.head c.in-Some.count c.self.inside.held.beats c.requires.width
      (g.met.K.Channel.small c.args.head c.requires.lawful)
      (subst (λ burst. IsOpen g.K.Channel.rules g.row.W burst) c.self.view_is c.self.invariant.0) c.requires.lawful c.requires.held
      (sym (ap count_in c.in-Some.is) ∙ ap count_in c.self.view_is)
      (held-beats g.K.Channel.rules g.row.W c.self.inside.burst c.args.head c.self.inside.held c.self.invariant.1
      (c.in-Some.field-0-0, c.in-Some.count) c.in-Some.is (λ h count e. c.requires.held h count (sym c.self.view_is ∙ e)));
}

pub returns-in-None : goal.returns-in-None
returns-in-None g c = record {
  head = refl;
  place = place-is g.K.Channel.rules g.row.W c.args.self.now c.args.head 0 c.held_by-beats.result.beats c.requires.width
      (g.met.K.Channel.small c.args.head c.requires.lawful)
      (subst (λ burst. IsOpen g.K.Channel.rules g.row.W burst) c.self.view_is c.self.invariant.0) c.requires.lawful c.requires.held
      (sym (ap count_in c.in-None.is) ∙ ap count_in c.self.view_is) c.held_by-beats.ensures.beats;
}
