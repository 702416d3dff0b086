use Rattle.tl_trace.proofs.BeatRoom.{beat_room}
use Rattle.tl_trace.proofs.script.Script.remove_front.Goals as goal

pub remove_front_of-requires-room-T-Clone : goal.remove_front_of-requires-room-T-Clone
remove_front_of-requires-room-T-Clone g c κs = beat_room g.row.C c.requires.client

pub remove_front_of-requires : goal.remove_front_of-requires
remove_front_of-requires g c = c.requires.counts.a

pub remove_front_of-requires-2-room-T-Clone : goal.remove_front_of-requires-2-room-T-Clone
remove_front_of-requires-2-room-T-Clone g c κs = beat_room g.row.M c.requires.manager

pub remove_front_of-requires-2 : goal.remove_front_of-requires-2
remove_front_of-requires-2 g c = c.requires.counts.b

pub remove_front_of-requires-3-room-T-Clone : goal.remove_front_of-requires-3-room-T-Clone
remove_front_of-requires-3-room-T-Clone g c κs = beat_room g.row.C c.requires.client

pub remove_front_of-requires-3 : goal.remove_front_of-requires-3
remove_front_of-requires-3 g c = c.requires.counts.c

pub remove_front_of-requires-4-room-T-Clone : goal.remove_front_of-requires-4-room-T-Clone
remove_front_of-requires-4-room-T-Clone g c κs = beat_room g.row.M c.requires.manager

pub remove_front_of-requires-4 : goal.remove_front_of-requires-4
remove_front_of-requires-4 g c = c.requires.counts.d

pub remove_front_of-requires-5-room-T-Clone : goal.remove_front_of-requires-5-room-T-Clone
remove_front_of-requires-5-room-T-Clone g c κs = beat_room g.row.C c.requires.client

pub remove_front_of-requires-5 : goal.remove_front_of-requires-5
remove_front_of-requires-5 g c = c.requires.counts.e

pub returns : goal.returns
returns g c = record {
  a = c.remove_front_of.ensures;
  b = c.remove_front_of-2.ensures;
  c = c.remove_front_of-3.ensures;
  d = c.remove_front_of-4.ensures;
  e = c.remove_front_of-5.ensures;
}
