use Rattle.tl_settle.proofs.Names.{width_bounds}
use Rattle.tl_settle.proofs.Admits.{at_admitted}
use Rattle.tl_settle.proofs.laws.steps_are_admitted.Goals as goal

pub returns : goal.returns
returns g c a d all_a all_d i j r =
    at_admitted (width_bounds g.row.C c.requires.client).0 (width_bounds g.row.M c.requires.manager).0
    c.faults_are_exact.ensures c.faults_are_exact-2.ensures a d all_a all_d i j r
