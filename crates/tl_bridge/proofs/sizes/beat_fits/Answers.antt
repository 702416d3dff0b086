use Rattle.tl_bridge.proofs.Words.{beat_small}
use Rattle.tl_bridge.proofs.sizes.beat_fits.Goals as goal

pub returns : goal.returns
returns g c = beat_small g.row.W c.requires
