use Rattle.std.proofs.Common.{ap, ◌∙◌, arith, bit_or}
use Rattle.std.proofs.lemmas.Nat.{or_shifted, shl_whole}
use Rattle.tl_c_beats.proofs.masks.whole_mask.Goals as goal

pub returns : goal.returns
returns c = rw (c.from.ensures, c.from-2.ensures)
    (ap (λ high. bit_or high c.args.low) (shl_whole c.args.high 64 64 128 c.ranges.high.fits (omega arith)) ∙
    or_shifted c.args.high 64 c.args.low c.ranges.low.fits)
