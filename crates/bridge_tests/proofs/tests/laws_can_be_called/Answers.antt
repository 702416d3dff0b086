use Rattle.tl_lanes.proofs.Widths.{width_4, width_16}
use Rattle.bridge_tests.proofs.tests.laws_can_be_called.Goals as goal

pub steps_are_admitted-requires-clause-client : goal.steps_are_admitted-requires-clause-client
steps_are_admitted-requires-clause-client c = width_4

pub steps_are_admitted-requires-clause-manager : goal.steps_are_admitted-requires-clause-manager
steps_are_admitted-requires-clause-manager c = width_16
