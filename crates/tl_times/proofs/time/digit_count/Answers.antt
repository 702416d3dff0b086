use Rattle.std.proofs.Common.{arith, sym, ◌∙◌}
use Rattle.std.proofs.lemmas.List.Sums.{prefix_len-le-length}
use Rattle.std.specs.Char.{is_ascii_digit}
use Rattle.tl_times.proofs.Digits.{one_more, ends_here}
use Rattle.tl_times.proofs.time.digit_count.Goals as goal

pub returns-then-not-is_ascii_digit : goal.returns-then-not-is_ascii_digit
returns-then-not-is_ascii_digit c =
    ends_here is_ascii_digit c.args.text.now c.loop-at.at 0 c.loop-at.invariant (sym c.is_ascii_digit.ensures.value ∙ c.if-not-is_ascii_digit.true)

pub loop-at-preserved : goal.loop-at-preserved
loop-at-preserved c =
    one_more is_ascii_digit c.args.text.now c.loop-at.at 0 c.loop-at.invariant c.loop-at-test.true (sym c.is_ascii_digit.ensures.value ∙ c.if-not-is_ascii_digit.false)

pub returns : goal.returns
returns c = omega (arith, c.loop-at.invariant, prefix_len-le-length is_ascii_digit c.args.text.now, c.loop-at-test.false)
