use Rattle.std.proofs.Common.{rules}
use Rattle.tl_c_beats.proofs.fields.beat_d.Goals as goal

pub returns : goal.returns
returns c = search rules
