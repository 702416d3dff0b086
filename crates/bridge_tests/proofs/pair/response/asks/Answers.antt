use Rattle.std.proofs.Common.{refl}
use Rattle.tl_sides.specs.Sides.{new_client}
use Rattle.bridge_tests.proofs.pair.response.asks.Goals as goal

-- the past of a side that has sent one request
pub returns-in-Ok-clause-asked : goal.returns-in-Ok-clause-asked
returns-in-Ok-clause-asked c = λ new accepted. (_, c.pump.ensures.stands _ (c.in-Ok.ensures.accepted (new_client 1) new), refl)
