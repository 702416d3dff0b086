use Rattle.std.proofs.Common.{◌+◌, ◌-◌, ◌*◌, arith, ap, ◌∙◌}
use Rattle.std.specs.Prelude.{slice_index_or}
use Rattle.std.proofs.lemmas.Str.Parse.{digits_value-take-le, digit_at}
use Rattle.tl_times.proofs.Digits.{is_small, one_digit_more}
use Rattle.tl_times.proofs.time.number_of.Goals as goal

pub overflow_mul-number : goal.overflow_mul-number
overflow_mul-number c =
    omega (arith, c.loop-byte.invariant, digits_value-take-le 10 c.args.digits.now c.loop-byte.byte-index (omega arith), is_small c.args.digits.now c.requires)

pub overflow_sub-number : goal.overflow_sub-number
overflow_sub-number c = (digit_at c.args.digits.now c.loop-byte.byte-index c.requires.0 c.loop-byte-test.true).0

pub overflow_add-number : goal.overflow_add-number
overflow_add-number c =
    omega (
      arith,
      c.loop-byte.invariant,
      digits_value-take-le 10 c.args.digits.now c.loop-byte.byte-index (omega arith),
      is_small c.args.digits.now c.requires,
      (digit_at c.args.digits.now c.loop-byte.byte-index c.requires.0 c.loop-byte-test.true).1,
    )

pub loop-byte-preserved : goal.loop-byte-preserved
loop-byte-preserved c =
    ap (λ n. n * 10 + (slice_index_or c.args.digits.now c.loop-byte.byte-index 0 - 48)) c.loop-byte.invariant
    ∙ one_digit_more c.args.digits.now c.loop-byte.byte-index c.requires.0 c.loop-byte-test.true

pub returns-clause-few : goal.returns-clause-few
returns-clause-few c =
    omega (arith, c.loop-byte.invariant, digits_value-take-le 10 c.args.digits.now c.loop-byte.byte-index (omega arith), is_small c.args.digits.now c.requires)
