use Rattle.std.proofs.Common.{arith, refl}
use Rattle.std.proofs.lemmas.Bool.Decides.{nat_tests}
use Rattle.tl_run.proofs.Emptiness.{either-some, some-of-either}
use Rattle.tl_run.proofs.turn.Turn.new.Goals as goal

pub add_accepted-requires : goal.add_accepted-requires
add_accepted-requires c = record { few = c.requires.few }

pub returns-clause-at : goal.returns-clause-at
returns-clause-at c = c.add_accepted.ensures

pub returns-clause-offers : goal.returns-clause-offers
returns-clause-offers c = refl

pub returns-clause-accepted : goal.returns-clause-accepted
returns-clause-accepted c =
    some-of-either (some-of-either
    (some-of-either (some-of-either c.is_accepted.ensures c.is_accepted-2.ensures) c.is_accepted-3.ensures) c.is_accepted-4.ensures)
    c.is_accepted-5.ensures

pub returns-clause-moved : goal.returns-clause-moved
returns-clause-moved c =
    either-some
    (some-of-either (some-of-either
    (some-of-either (some-of-either c.is_accepted.ensures c.is_accepted-2.ensures) c.is_accepted-3.ensures) c.is_accepted-4.ensures)
    c.is_accepted-5.ensures)
    (λ e. grind (arith, nat_tests), λ e. grind (arith, nat_tests))
