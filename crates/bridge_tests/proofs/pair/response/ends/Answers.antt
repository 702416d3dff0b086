use Rattle.std.proofs.Common.{rules, ◌∙◌}
use Rattle.std.specs.Global.{Global}
use Rattle.tl_sides.specs.Sides.{ClientState, SameClient}
use Rattle.tl_sides.proofs.SameSides.{same_manager_then, still_sides}
use Rattle.bridge_tests.proofs.pair.response.ends.Goals as goal

client-same : (s : ClientState Global 4 16) → SameClient s s
client-same s = search rules

pub returns-in-Some-receipt-clause-taker : goal.returns-in-Some-receipt-clause-taker
returns-in-Some-receipt-clause-taker c = λ s sides.
    let sent = c.responds-request in
    let closed = c.closes-are_closed in
    rw c.in-Some-receipt.is at (c.finished_manager-receipt.ensures.taker s (still_sides s s c.args.manager closed.new.manager (client-same s)
    (same_manager_then c.args.manager sent.new.manager closed.new.manager sent.ensures.same closed.ensures.same) sides))

-- the past of the side goes from call to call
pub returns-in-Some-receipt-clause-shows : goal.returns-in-Some-receipt-clause-shows
returns-in-Some-receipt-clause-shows c =
    let sent = rw c.in-Some.is at (c.responds-request.ensures.sent c.requires.manager) in
    let closed = c.closes-are_closed.ensures.closed sent.0 sent.1 c.if-not-are_closed.false in (
      closed.0,
      rw c.in-Some-receipt.is at (c.finished_manager-receipt.ensures.shows closed.0 closed.1),
      closed.2 ∙ sent.2,
      closed.3 ∙ sent.3,
    )
