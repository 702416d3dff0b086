use Rattle.bridge_tests.proofs.pair.receipt_tests.manager_ends.Goals as goal

pub has_the_probe-requires : goal.has_the_probe-requires
has_the_probe-requires c = c.in-Some.ensures.taker c.args.client.now c.requires
