-- A run that goes round neither bus is moved by shifts.
use Rattle.std.proofs.Common.{arith}
use Rattle.std.specs.Int.{bit_at}
use Rattle.tl_lanes.proofs.LaneRuns.{run-moved, lane-outside}
use Rattle.tl_lanes.proofs.Widths.{width_bounds}
use Rattle.tl_lanes.proofs.move_mask.Goals as goal

pub move_run_of_bits-requires-clause-near_inside : goal.move_run_of_bits-requires-clause-near_inside
move_run_of_bits-requires-clause-near_inside c = omega (arith, width_bounds c.args.w c.requires.near)

pub move_run_of_bits-requires-clause-far_inside : goal.move_run_of_bits-requires-clause-far_inside
move_run_of_bits-requires-clause-far_inside c = omega (arith, width_bounds c.args.v c.requires.far)

pub move_run_of_bits-requires-clause-fits_destination : goal.move_run_of_bits-requires-clause-fits_destination
move_run_of_bits-requires-clause-fits_destination c = omega (arith, width_bounds c.args.v c.requires.far)

pub returns-then-far-count-clause-moved : goal.returns-then-far-count-clause-moved
returns-then-far-count-clause-moved c =
    run-moved (bit_at c.move_run_of_bits.result) (bit_at c.args.from) c.args.at c.args.w c.args.v c.args.count
    c.lane-near.result c.lane-far.result c.requires.near c.requires.far c.lane-near.ensures c.lane-far.ensures
    c.if-near-count.true c.if-far-count.true c.move_run_of_bits.ensures.moved

pub returns-then-far-count-clause-kept : goal.returns-then-far-count-clause-kept
returns-then-far-count-clause-kept c l none =
    c.move_run_of_bits.ensures.kept l
    (lane-outside c.args.at c.args.v c.args.count c.lane-far.result l c.requires.far c.lane-far.ensures c.if-far-count.true none)
