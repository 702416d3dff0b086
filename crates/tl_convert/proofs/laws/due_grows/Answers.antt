use Rattle.tl_convert.proofs.Names.{refl}
use Rattle.tl_convert.proofs.DuePrefix.{due-prefix}
use Rattle.tl_convert.proofs.laws.due_grows.Goals as goal

pub returns : goal.returns
returns g c = λ bs cs homes ms rest h.
    due-prefix g.K.Channel.rules g.row.W g.row.V c.requires.near c.requires.far g.met.K.Channel.partial_masked h bs cs refl
