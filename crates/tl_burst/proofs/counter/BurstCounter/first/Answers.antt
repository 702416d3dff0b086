use Rattle.tl_burst.proofs.Names.{◌==◌, ap}
use Rattle.tl_burst.proofs.counter.BurstCounter.first.Goals as goal

pub returns : goal.returns
returns g c = ap (λ n. n == 0) c.self.view_is
