use Rattle.tl_settle.proofs.Names.{width_bounds}
use Rattle.tl_settle.proofs.InOrder.{run_in_order}
use Rattle.tl_settle.proofs.laws.every_run_is_in_order.Goals as goal

pub returns : goal.returns
returns start c m near far a d i j client manager run = run_in_order (width_bounds c near).0 (width_bounds m far).0 a d run
