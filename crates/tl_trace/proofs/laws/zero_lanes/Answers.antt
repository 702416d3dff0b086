use Rattle.tl_trace.proofs.Widths.{zero_past}
use Rattle.tl_trace.proofs.laws.zero_lanes.Goals as goal

pub returns : goal.returns
returns c = zero_past
