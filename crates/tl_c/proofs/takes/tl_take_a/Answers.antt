use Rattle.std.proofs.Common.{lit<}
use Rattle.tl_c.proofs.BothWidths.{widths}
use Rattle.tl_c.proofs.takes.tl_take_a.Goals as goal

pub take_a-requires : goal.take_a-requires
take_a-requires c = (lit< tt, (lit< tt, widths.1))
