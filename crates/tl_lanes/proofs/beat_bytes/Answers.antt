use Rattle.std.proofs.Common.{rules}
use Rattle.tl_lanes.proofs.beat_bytes.Goals as goal

pub returns : goal.returns
returns c = search rules
