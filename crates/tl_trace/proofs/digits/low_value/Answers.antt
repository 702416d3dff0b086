-- The table is held against the definition at each of the 256 bytes, by computing.
use Rattle.tl_trace.proofs.Names.{cond, nat_lt, refl, arith, digit_of, LOW_VALUES}
use Rattle.tl_trace.proofs.Table.{agree_from, agree_at}
use Rattle.tl_trace.proofs.digits.low_value.Goals as goal

pub returns : goal.returns
unfolding agree_from
returns c = agree_at (λ k. cond (nat_lt 15 (digit_of k)) 256 (digit_of k)) LOW_VALUES 256 refl refl c.args.byte (omega arith)
