-- The table is held against the definition at each of the 256 bytes, by computing.
use Rattle.tl_trace.proofs.Names.{cond, nat_eq, refl, arith, SPACE_VALUES}
use Rattle.tl_trace.proofs.Table.{agree_from, agree_at}
use Rattle.tl_trace.proofs.digits.space.Goals as goal

pub returns : goal.returns
unfolding agree_from
returns c = agree_at (λ k. cond (nat_eq k 32) 0 16) SPACE_VALUES 256 refl refl c.args.byte (omega arith)
