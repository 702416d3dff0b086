use Rattle.std.proofs.Common.{◌∷◌, [], subst}
use Rattle.tl_msg.specs.Tables.{rules_a}
use Rattle.tl_burst.specs.Handing.{Handed}
use Rattle.bridge_tests.proofs.ring.headline.take_whole.Goals as goal

-- what was taken goes from call to call, and the receipt shows it
pub returns-then-drained : goal.returns-then-drained
returns-then-drained c = λ x shows none.
    let first = c.in_ok-first.ensures.taken [] none in
    let second = c.in_ok-second.ensures.taken (c.in_ok-first.first ∷ []) first in
    let crosses = (c.drained.ensures.shown x _ shows second).crosses in
    let empty = c.drained.ensures.drained.0 c.if-drained.true in (
      crosses.messages,
      subst (λ rest. Handed rules_a 8 x.accepted x.homes crosses.messages rest) (crosses.closed_whole shows.closed) crosses.handed,
      crosses.drained shows.closed shows.none_staged empty.1 empty.0,
    )
