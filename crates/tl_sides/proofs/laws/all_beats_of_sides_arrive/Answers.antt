use Rattle.tl_sides.proofs.ArrivingSides.{all_beats_come}
use Rattle.tl_sides.proofs.laws.all_beats_of_sides_arrive.Goals as goal

pub returns : goal.returns
returns g c = all_beats_come _ _ _
