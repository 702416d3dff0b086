use Rattle.tl_burst.proofs.Names.{sym, ap, subst, ◌∙◌, fault_in, IsOpen}
use Rattle.tl_burst.proofs.tracker.Tracker.first_fault.Goals as goal

pub returns-in-Some : goal.returns-in-Some
returns-in-Some g c = record {
  fault = c.continuing_fault.ensures ∙ ap (λ burst. fault_in g.K.Channel.rules burst c.args.beat.now) (sym c.in-Some.is ∙ c.self.view_is);
  begun = subst (λ burst. IsOpen g.K.Channel.rules g.row.W burst) c.self.view_is c.self.invariant.0;
}

pub returns-in-None : goal.returns-in-None
returns-in-None g c = record {
  fault = c.opening_fault.ensures ∙ ap (λ burst. fault_in g.K.Channel.rules burst c.args.beat.now) (sym c.in-None.is ∙ c.self.view_is);
  begun = subst (λ burst. IsOpen g.K.Channel.rules g.row.W burst) c.self.view_is c.self.invariant.0;
}
