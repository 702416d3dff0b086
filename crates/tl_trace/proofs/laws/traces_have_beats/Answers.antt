use Rattle.tl_trace.proofs.KeptBeats.{has_beats}
use Rattle.tl_trace.proofs.laws.traces_have_beats.Goals as goal

pub returns : goal.returns
returns c = has_beats
