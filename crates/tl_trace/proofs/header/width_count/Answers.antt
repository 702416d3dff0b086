use Rattle.tl_trace.proofs.Names.{arith}
use Rattle.tl_trace.proofs.Headers.{narrow_count, wide_count}
use Rattle.tl_trace.proofs.header.width_count.Goals as goal

pub returns-then-version-eq1-clause-count : goal.returns-then-version-eq1-clause-count
returns-then-version-eq1-clause-count c = narrow_count c.args.version c.if-version-eq1.true

pub returns-clause-count : goal.returns-clause-count
returns-clause-count c = wide_count c.args.version (omega arith)
