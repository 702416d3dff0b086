use Rattle.tl_convert.proofs.CutThrough.{is_cut_through}
use Rattle.tl_convert.proofs.laws.cut_through.Goals as goal

pub returns : goal.returns
returns g c = is_cut_through g.K.Channel.rules g.row.W g.row.V c.requires.near c.requires.far g.met.K.Channel.partial_masked
