use Rattle.tl_run.proofs.Rooms.{none-yet}
use Rattle.tl_run.proofs.taken.no_far_beats.Goals as goal

pub returns : goal.returns
returns g c =
    let empty = c.empty_script.ensures in
    none-yet c.empty_script.result empty.a empty.b empty.c empty.d empty.e
