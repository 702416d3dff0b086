use Rattle.tl_trace.proofs.Names.{◌≡◌, ◌+◌, ◌-◌, length, arith, slice_range}
use Rattle.tl_trace.proofs.ReadDigits.{range_long, spelt_after, spelt_split}
use Rattle.tl_trace.proofs.digits.mask_field.Goals as goal

pub returns-then-count-le-DIGITS : goal.returns-then-count-le-DIGITS
returns-then-count-le-DIGITS c =
    spelt_after c.args.text.now c.args.at c.args.count c.number_by_digits-number.result.value c.space.result c.number_by_digits-number.result.bad
    c.requires.room c.space.ensures c.number_by_digits-number.ensures

pub returns : goal.returns
returns c =
    let ds = slice_range c.args.text.now (c.args.at + 1) (c.args.at + 1 + c.args.count) in
    let long : length ds ≡ c.args.count = range_long c.args.text.now (c.args.at + 1) c.args.count c.requires.room in
    spelt_after c.args.text.now c.args.at c.args.count _ c.space-2.result _ c.requires.room c.space-2.ensures
    (spelt_split ds (c.args.count - 16) c.number_of_digits-high.result.value c.number_of_digits-low.result.value c.number_of_digits-high.result.bad
    c.number_of_digits-low.result.bad
    (omega (arith, long, c.if-count-le-DIGITS.false)) c.number_of_digits-high.ensures c.number_of_digits-low.ensures)
