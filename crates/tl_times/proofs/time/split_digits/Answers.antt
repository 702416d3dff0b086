use Rattle.std.proofs.Common.{arith, sym, subst, take, ap, ◌∙◌}
use Rattle.std.proofs.lemmas.List.Sums.{prefix_len-le-length}
use Rattle.std.specs.Char.{is_ascii_digit}
use Rattle.std.specs.Str.Parse.{AllDigits}
use Rattle.tl_times.proofs.Digits.{begins_with_digits}
use Rattle.tl_times.proofs.time.split_digits.Goals as goal

pub split_at-requires : goal.split_at-requires
split_at-requires c = omega (arith, c.digit_count.ensures, prefix_len-le-length is_ascii_digit c.args.text.now)

pub returns-clause-are_digits : goal.returns-clause-are_digits
returns-clause-are_digits c =
    subst (AllDigits 10) (sym (c.split_at.ensures.front ∙ ap (λ n. take n c.args.text.now) c.digit_count.ensures))
    (begins_with_digits c.args.text.now)
