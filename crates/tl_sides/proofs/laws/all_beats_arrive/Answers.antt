use Rattle.tl_sides.proofs.Arriving.{every_beat_arrives}
use Rattle.tl_sides.proofs.laws.all_beats_arrive.Goals as goal

pub returns : goal.returns
returns g c = every_beat_arrives c.every_beat_arrives.ensures c.every_beat_arrives-2.ensures c.every_beat_arrives-3.ensures
    c.every_beat_arrives-4.ensures c.every_beat_arrives-5.ensures
