use Rattle.tl_burst.proofs.Names.{refl}
use Rattle.tl_burst.proofs.tracker.Tracker.new.Goals as goal

pub invariant_of-result : goal.invariant_of-result
invariant_of-result g c = (tt, tt)

pub returns : goal.returns
returns g c = refl
