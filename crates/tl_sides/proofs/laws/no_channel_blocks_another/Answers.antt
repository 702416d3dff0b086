use Rattle.tl_sides.proofs.Separate.{no_channel_blocks}
use Rattle.tl_sides.proofs.laws.no_channel_blocks_another.Goals as goal

pub returns : goal.returns
returns g c = no_channel_blocks _ g.row.C g.row.M
