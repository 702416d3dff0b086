use Rattle.tl_run.proofs.Names.{beat_small}
use Rattle.tl_run.proofs.taken.beats_fit.Goals as goal

pub returns : goal.returns
returns g c = (beat_small g.row.C c.requires.client, beat_small g.row.M c.requires.manager)
