use Rattle.tl_run.proofs.streaming.SyncRun.advance.Goals as goal

pub returns-clause-held : goal.returns-clause-held
returns-clause-held g c = λ rest goes. record { within = c.count_discardable.ensures.rest rest goes; rests = c.in-Ok.ensures.can.rests }
