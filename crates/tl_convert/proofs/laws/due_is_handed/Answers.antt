use Rattle.tl_convert.proofs.FarHanded.{far-handed}
use Rattle.tl_convert.proofs.laws.due_is_handed.Goals as goal

pub returns : goal.returns
returns g c = λ bs homes ms rest h.
    far-handed g.K.Channel.rules g.row.W g.row.V c.requires.near c.requires.far g.met.K.Channel.partial_masked h
