-- The table is held against the definition at each of the 256 bytes, by computing.
use Rattle.tl_trace.proofs.Names.{refl, arith, digit_of, DIGIT_VALUES}
use Rattle.tl_trace.proofs.Table.{agree_from, agree_at}
use Rattle.tl_trace.proofs.digits.digit.Goals as goal

pub returns : goal.returns
unfolding agree_from
returns c = agree_at digit_of DIGIT_VALUES 256 refl refl c.args.byte (omega arith)
