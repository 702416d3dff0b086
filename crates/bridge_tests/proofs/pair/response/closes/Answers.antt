use Rattle.std.proofs.Common.{refl}
use Rattle.bridge_tests.proofs.pair.response.closes.Goals as goal

pub returns-in-Ok-close_d-clause-closed : goal.returns-in-Ok-close_d-clause-closed
returns-in-Ok-close_d-clause-closed c = λ y stands yes. (_, c.in-Ok-close_d.ensures.stands _ (c.in-Ok.ensures.stands y stands), refl, refl)
