use Rattle.tl_convert.proofs.Names.{ChannelLaws, laws-of}
use Rattle.tl_convert.proofs.FarHanded.{far-handed}
use Rattle.tl_convert.proofs.LawfulBeats.{handed-lawful}
use Rattle.tl_convert.proofs.laws.due_is_lawful.Goals as goal

pub returns : goal.returns
returns g c = λ bs homes ms rest h.
    let laws : ChannelLaws g.K.Channel.rules = laws-of g.met.K.Channel.same_heads g.met.K.Channel.same_is
    g.met.K.Channel.small g.met.K.Channel.partial_carries g.met.K.Channel.masked_address g.met.K.Channel.home_kept in
    let far = far-handed g.K.Channel.rules g.row.W g.row.V c.requires.near c.requires.far g.met.K.Channel.partial_masked h in
    handed-lawful g.K.Channel.rules g.row.V c.requires.far laws far.handed
