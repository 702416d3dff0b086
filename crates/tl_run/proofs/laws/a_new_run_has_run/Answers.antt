use Rattle.tl_run.proofs.Names.{no_beats}
use Rattle.tl_run.proofs.laws.a_new_run_has_run.Goals as goal

pub returns : goal.returns
returns g c = λ near begins holds. record { all = no_beats; holds = holds; counts = begins.0; under_way = begins.1 }
