use Rattle.tl_convert.proofs.FarHanded.{layout-spells-even}
use Rattle.tl_convert.proofs.laws.layout_spells.Goals as goal

pub returns : goal.returns
returns g c = λ m all_cells even. layout-spells-even g.K.Channel.rules g.row.V m c.requires.far all_cells even
