use Rattle.tl_lanes.proofs.MaskMoves.{with_run-moved, with_run-kept}
use Rattle.tl_lanes.proofs.moves.move_run_of_bits.Goals as goal

pub returns-clause-moved : goal.returns-clause-moved
returns-clause-moved c k lt =
    rw (c.run_of_lanes.ensures, c.ones.ensures) (with_run-moved c.args.from c.args.near c.args.to c.args.far c.args.count k c.requires.fits_destination lt)

pub returns-clause-kept : goal.returns-clause-kept
returns-clause-kept c l outside =
    rw (c.run_of_lanes.ensures, c.ones.ensures)
    (with_run-kept c.args.from c.args.near c.args.to c.args.far c.args.count l c.ranges.to.fits c.requires.fits_destination outside)
