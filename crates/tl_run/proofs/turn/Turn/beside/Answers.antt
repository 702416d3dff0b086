use Rattle.std.proofs.Common.{refl}
use Rattle.tl_run.proofs.turn.Turn.beside.Goals as goal

pub returns-clause-at : goal.returns-clause-at
returns-clause-at c = refl

pub returns-clause-offers : goal.returns-clause-offers
returns-clause-offers c = refl

pub returns-clause-accepted : goal.returns-clause-accepted
returns-clause-accepted c = c.either.ensures

pub returns-clause-moved : goal.returns-clause-moved
returns-clause-moved c = c.either-2.ensures
