use Rattle.tl_trace.proofs.Names.{arith, digit_of}
use Rattle.tl_trace.proofs.ReadDigits.{pair_fits, pair_good, pair_bad}
use Rattle.tl_trace.proofs.digits.pair.Goals as goal

pub overflow_add-result : goal.overflow_add-result
overflow_add-result c = let fits = pair_fits (digit_of c.args.high) (digit_of c.args.low) _ _ c.high_value.ensures c.low_value.ensures in omega arith

pub returns-clause-good : goal.returns-clause-good
returns-clause-good c = pair_good c.args.high c.args.low _ _ c.high_value.ensures c.low_value.ensures

pub returns-clause-bad : goal.returns-clause-bad
returns-clause-bad c = pair_bad (digit_of c.args.high) (digit_of c.args.low) _ _ c.high_value.ensures c.low_value.ensures
