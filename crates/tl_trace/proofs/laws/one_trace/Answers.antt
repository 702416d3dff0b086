use Rattle.tl_trace.proofs.OneTrace.{one_trace}
use Rattle.tl_trace.proofs.laws.one_trace.Goals as goal

pub returns : goal.returns
returns c = one_trace
