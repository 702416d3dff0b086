use Rattle.tl_settle.proofs.InOrder.{one_order_obeys}
use Rattle.tl_settle.proofs.laws.one_order_obeys.Goals as goal

pub returns : goal.returns
returns start c m near far client manager = one_order_obeys near far client manager
