use Rattle.std.proofs.Common.{refl}
use Rattle.tl_c_beats.proofs.Telling.{told_beat}
use Rattle.tl_c_beats.proofs.writes.write_a.Goals as goal

pub returns : goal.returns
returns g c = told_beat c.in-Some.far c.in-Some.is c.fields_a.ensures refl
