use Rattle.tl_ring.proofs.FieldSizes.{beat_small}
use Rattle.tl_explain.proofs.letters.form_on.Goals as goal

pub default-requires : goal.default-requires
default-requires g c = beat_small g.row.W c.requires
