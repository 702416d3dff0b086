use Rattle.bridge_tests.proofs.ring.headline.send_one.Goals as goal

pub returns-in-Ok-clause-sent : goal.returns-in-Ok-clause-sent
returns-in-Ok-clause-sent c = λ x h. c.pump.ensures.stands _ (c.in-Ok.ensures.accepted x h)
