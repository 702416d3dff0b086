use Rattle.std.proofs.Common.{refl}
use Rattle.tl_c_beats.proofs.parts.Live.unset.Goals as goal

-- (answered, as an edit turns it)
pub returns : goal.returns
returns c = refl
