use Rattle.speed.proofs.ends.SendEndChASenderBeatChA.offer.Goals as goal

pub ready-requires : goal.ready-requires
ready-requires g c = c.requires-raw.1.0
