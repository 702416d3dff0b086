use Rattle.tl_trace.proofs.Faultless.{no_fault}
use Rattle.tl_trace.proofs.laws.faultless_texts.Goals as goal

pub returns : goal.returns
returns c = no_fault
