use Rattle.tl_settle.proofs.Names.{width_bounds}
use Rattle.tl_settle.proofs.Settles.{one_settled}
use Rattle.tl_settle.proofs.laws.one_settled_state.Goals as goal

pub returns : goal.returns
returns start c m near far a d = one_settled (width_bounds c near).0 (width_bounds m far).0 a d
