use Rattle.std.proofs.Common.{rules}
use Rattle.tl_lanes.proofs.lane.Goals as goal

pub returns : goal.returns
returns c = search rules
