use Rattle.tl_settle.proofs.Names.{width_bounds}
use Rattle.tl_settle.proofs.Longer.{only_lengthens}
use Rattle.tl_settle.proofs.laws.a_longer_script_only_lengthens.Goals as goal

pub returns : goal.returns
returns start c m near far script longer on = only_lengthens (width_bounds c near).0 (width_bounds m far).0 script longer on
