use Rattle.tl_convert.proofs.Series.{is_in_series}
use Rattle.tl_convert.proofs.laws.in_series.Goals as goal

pub returns : goal.returns
returns g c = is_in_series g.K.Channel.rules g.row.W g.row.V g.row.U c.requires.near c.requires.middle c.requires.far g.met.K.Channel.partial_masked
