use Rattle.tl_convert.proofs.Names.{refl}
use Rattle.std.proofs.lemmas.List.{length-replicate}
use Rattle.tl_convert.proofs.pouring.blank.Goals as goal

pub returns : goal.returns
returns g c = record { head_is = refl; lanes = refl; size = length-replicate g.row.V 0; mask = refl; corrupt = refl }
