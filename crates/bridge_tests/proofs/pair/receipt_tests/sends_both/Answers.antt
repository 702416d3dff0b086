use Rattle.tl_sides.proofs.SameSides.{same_client_then, still_sides}
use Rattle.bridge_tests.proofs.pair.receipt_tests.sends_both.Goals as goal

pub returns : goal.returns
returns c =
    let one = c.may_not_finish-one in
    let other = c.sends_the_other-other in
    still_sides c.args.client.now other.new.client c.args.manager.now other.new.manager
    (same_client_then c.args.client.now one.new.client other.new.client one.ensures other.ensures.client) other.ensures.manager c.requires
