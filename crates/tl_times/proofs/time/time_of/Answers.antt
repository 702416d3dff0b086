use Rattle.std.proofs.Common.{sym, subst}
use Rattle.tl_times.specs.Inner.Digits.{AreFewDigits}
use Rattle.tl_times.proofs.Digits.{padded_digits}
use Rattle.tl_times.proofs.time.time_of.Goals as goal

pub number_of-requires : goal.number_of-requires
number_of-requires c = (c.split_digits.ensures.are_digits, c.if-whole-gt-MOST_DIGITS.false)

pub number_of-requires-2 : goal.number_of-requires-2
number_of-requires-2 c =
    subst AreFewDigits (sym c.padded.ensures)
    (padded_digits c.split_digits-2.result.0.now (c.split_digits-2.ensures.are_digits, c.if-fraction-gt-MOST_DIGITS.false))
