-- The runs of lanes, by whether the bytes of a beat go round the end of the bus.
use Rattle.std.proofs.Common.{arith, sym, ◌∙◌}
use Rattle.tl_lanes.proofs.ActiveLanes.{active_mask-run, active_mask-two_runs}
use Rattle.tl_lanes.proofs.Widths.{width_bounds}
use Rattle.tl_lanes.proofs.active.Goals as goal

pub run_of_lanes-requires-clause-inside : goal.run_of_lanes-requires-clause-inside
run_of_lanes-requires-clause-inside c =
    omega (arith, width_bounds c.args.w c.requires.width)

pub run_of_lanes-requires-clause-room : goal.run_of_lanes-requires-clause-room
run_of_lanes-requires-clause-room c = omega (arith, width_bounds c.args.w c.requires.width)

pub run_of_lanes-requires-else-first-count-clause-inside : goal.run_of_lanes-requires-else-first-count-clause-inside
run_of_lanes-requires-else-first-count-clause-inside c =
    omega (arith, width_bounds c.args.w c.requires.width)

pub run_of_lanes-requires-else-first-count-clause-room : goal.run_of_lanes-requires-else-first-count-clause-room
run_of_lanes-requires-else-first-count-clause-room c =
    omega (arith, width_bounds c.args.w c.requires.width)

pub ones-requires : goal.ones-requires
ones-requires c =
    omega (arith, width_bounds c.args.w c.requires.width)

pub returns-then-first-count : goal.returns-then-first-count
returns-then-first-count c =
    c.run_of_lanes.ensures
    ∙ sym (active_mask-run c.args.address c.args.size c.args.w c.lane-first.result c.beat_bytes-count.result
    c.requires.width c.lane-first.ensures c.beat_bytes-count.ensures c.if-first-count.true)

pub returns-else-first-count : goal.returns-else-first-count
returns-else-first-count c =
    active_mask-two_runs c.args.address c.args.size c.args.w c.lane-first.result c.beat_bytes-count.result
    c.run_of_lanes-else-first-count.result c.ones.result c.requires.width c.lane-first.ensures c.beat_bytes-count.ensures
    (omega arith) c.run_of_lanes-else-first-count.ensures c.ones.ensures
