use Rattle.std.proofs.Common.{rules}
use Rattle.tl_lanes.proofs.runs.ones.Goals as goal

pub returns-then-count-eq-WIDEST : goal.returns-then-count-eq-WIDEST
returns-then-count-eq-WIDEST c = search rules
