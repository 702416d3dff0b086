use Rattle.std.proofs.lemmas.Option.{IfSome_then}
use Rattle.tl_ring.specs.Crossing.{empty}
use Rattle.bridge_tests.proofs.ring.headline.send_whole.Goals as goal

-- the past of the end goes from call to call
pub returns-then-staged-eq0-clause-shows : goal.returns-then-staged-eq0-clause-shows
returns-then-staged-eq0-clause-shows c =
    let sent = c.in_ok-send_one.ensures.sent (empty 4) c.requires in
    let shut = c.in-Ok.ensures.stands _ sent in
    IfSome_then c.finish.result (c.finish.ensures.shows _ shut) (λ receipt shows. (c.in_ok-send_one.field-0, shows))
