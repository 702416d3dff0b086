use Rattle.speed.proofs.ends.SendEndChASenderBeatChA.pump.Goals as goal

pub pump-requires : goal.pump-requires
pump-requires g c = c.requires-raw.1

pub staged-requires : goal.staged-requires
staged-requires g c = c.requires-raw.1
