use Rattle.std.proofs.Common.{rules}
use Rattle.tl_lanes.proofs.beats.Goals as goal

pub returns-else-carries : goal.returns-else-carries
returns-else-carries c = search rules
