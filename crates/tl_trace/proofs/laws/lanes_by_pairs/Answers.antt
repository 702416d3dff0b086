use Rattle.tl_trace.proofs.Pairs.{by_pairs}
use Rattle.tl_trace.proofs.laws.lanes_by_pairs.Goals as goal

pub returns : goal.returns
returns c = by_pairs
