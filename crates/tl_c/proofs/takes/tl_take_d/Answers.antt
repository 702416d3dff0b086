use Rattle.std.proofs.Common.{lit<}
use Rattle.tl_c.proofs.BothWidths.{widths}
use Rattle.tl_c.proofs.takes.tl_take_d.Goals as goal

pub take_d-requires : goal.take_d-requires
take_d-requires c = (lit< tt, (lit< tt, widths.0))
