use Rattle.tl_run.proofs.Names.{refl, nothing_yet, no_beats}
use Rattle.tl_run.proofs.Ended.{starts}
use Rattle.tl_run.proofs.Pieces.{new-within}
use Rattle.tl_run.proofs.streaming.SyncRun.new.Goals as goal

pub returns-clause-running : goal.returns-clause-running
returns-clause-running g c = λ near. (refl, starts near _ no_beats c.args.bridge refl refl c.requires.new)

pub returns-clause-begins : goal.returns-clause-begins
returns-clause-begins g c = λ held short.
    record { within = new-within held short; rests = record { past = nothing_yet c.requires.new.0; stands = c.requires.new.2; rest = refl } }
