use Rattle.tl_settle.proofs.Names.{width_bounds}
use Rattle.tl_settle.proofs.Runs.{over}
use Rattle.tl_settle.proofs.laws.every_run.Goals as goal

pub returns : goal.returns
returns start c m near far a d i j client manager is_over =
    over (width_bounds c near).0 (width_bounds m far).0 a d i j client manager is_over
