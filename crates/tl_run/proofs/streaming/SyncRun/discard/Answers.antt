use Rattle.tl_run.proofs.Names.{bridge_small}
use Rattle.tl_run.proofs.streaming.SyncRun.discard.Goals as goal

pub discard-requires : goal.discard-requires
discard-requires g c = bridge_small g.row.C g.row.M c.requires.client c.requires.manager
