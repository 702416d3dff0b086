use Rattle.std.proofs.Common.{arith, ◌+◌, subst, sym, ℕ}
use Rattle.tl_lanes.proofs.MaskMoves.{BitsMoved, BitsMoved-set, BitsMoved-clear, all_bits}
use Rattle.tl_lanes.proofs.Widths.{width_bounds}
use Rattle.tl_lanes.proofs.moves.move_each_bit.Goals.{then-from-lane-eq1, else-from-lane-eq1}
use Rattle.tl_lanes.proofs.moves.move_each_bit.Goals as goal

pub overflow_shr-from : goal.overflow_shr-from
overflow_shr-from c = omega (arith, c.lane.ensures, width_bounds c.args.w c.requires.near)

pub overflow_shl-mask : goal.overflow_shl-mask
overflow_shl-mask c = omega (arith, c.lane-far.ensures, width_bounds c.args.v c.requires.far)

pub overflow_shl-mask-else-from-lane-eq1 : goal.overflow_shl-mask-else-from-lane-eq1
overflow_shl-mask-else-from-lane-eq1 c = omega (arith, c.lane-far.ensures, width_bounds c.args.v c.requires.far)

pub loop-k-preserved : goal.loop-k-preserved
loop-k-preserved c =
    let P : ℕ → Type 0 = λ m. BitsMoved c.args.from m c.args.to c.args.at c.args.w c.args.v (c.loop-k.k + 1) in
    elim c.if-from-lane-eq1.branch [
      | then-from-lane-eq1 w ↦ subst P (sym w.mask-is)
          (BitsMoved-set c.args.from c.loop-k.mask c.args.to c.args.at c.args.w c.args.v c.loop-k.k c.lane-far.result c.lane.result
          c.requires.far (omega arith) c.lane-far.ensures c.lane.ensures w.if-from-lane-eq1.true c.loop-k.invariant)
      | else-from-lane-eq1 w ↦ subst P (sym w.mask-is)
          (BitsMoved-clear c.args.from c.loop-k.mask c.args.to c.args.at c.args.w c.args.v c.loop-k.k c.lane-far.result c.lane.result
          c.requires.far (omega arith) c.lane-far.ensures c.lane.ensures w.if-from-lane-eq1.false c.loop-k.invariant)
    ]

pub returns-clause-kept : goal.returns-clause-kept
returns-clause-kept c l none =
    all_bits c.loop-k.mask c.args.to l c.loop-k.auto.mask-fits.fits c.ranges.to.fits
    (λ inside. c.loop-k.invariant.kept l inside (λ k lt. none k (omega arith)))
