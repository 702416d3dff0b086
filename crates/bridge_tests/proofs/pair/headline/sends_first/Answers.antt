use Rattle.std.proofs.Common.{refl}
use Rattle.tl_sides.specs.Sides.{new_client}
use Rattle.bridge_tests.proofs.pair.headline.sends_first.Goals as goal

-- the past of a side that has sent one beat
pub returns-in-Ok-clause-sent : goal.returns-in-Ok-clause-sent
returns-in-Ok-clause-sent c = λ new. (_, c.pump.ensures.stands _ (c.in-Ok.ensures.accepted (new_client 1) new), refl, refl)
