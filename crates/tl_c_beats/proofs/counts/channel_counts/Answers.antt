use Rattle.std.proofs.Common.{rules}
use Rattle.tl_c_beats.proofs.counts.channel_counts.Goals as goal

pub returns : goal.returns
returns c = search rules
