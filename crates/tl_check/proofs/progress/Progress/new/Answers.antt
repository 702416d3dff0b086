use Rattle.tl_check.proofs.Passing.{come-start}
use Rattle.tl_check.proofs.progress.Progress.new.Goals as goal

pub returns-clause-come : goal.returns-clause-come
returns-clause-come g c = λ v bs. come-start g.K.Channel.rules bs c.new.result c.new.ensures
