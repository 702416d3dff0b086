-- Search finds it. It has a name here, so that a wrong body is refused at once.
use Rattle.tl_offer.proofs.Names.{sym, ap, ⊎_elim, steps}
use Rattle.tl_offer.proofs.offered.Offered.steps.Goals as goal

pub returns-in-NotReady : goal.returns-in-NotReady
returns-in-NotReady c = ⊎_elim (λ e. sym (ap steps e)) (λ e. sym (ap steps e.1)) c.in-NotReady.is
