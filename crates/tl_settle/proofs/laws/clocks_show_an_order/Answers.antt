use Rattle.tl_settle.proofs.InOrder.{clocks_order}
use Rattle.tl_settle.proofs.laws.clocks_show_an_order.Goals as goal

pub returns : goal.returns
returns start c m client manager agree = clocks_order client manager agree
