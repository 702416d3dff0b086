use Rattle.std.proofs.Common.{lit<}
use Rattle.tl_sides.proofs.SameSides.{still_sides}
use Rattle.bridge_tests.proofs.pair.side_tests.play_and_meet.Goals as goal

pub meet_sides-requires : goal.meet_sides-requires
meet_sides-requires c = (
  lit< tt,
  (
    lit< tt,
    still_sides c.args.client.now c.play-said.new.client c.args.manager.now c.play-said.new.manager c.play-said.ensures.client
        c.play-said.ensures.manager c.requires,
  ),
)

pub returns : goal.returns
returns c = record {
  a = c.meet_sides.ensures.a.pair;
  b = c.meet_sides.ensures.b.pair;
  c = c.meet_sides.ensures.c.pair;
  d = c.meet_sides.ensures.d.pair;
  e = c.meet_sides.ensures.e.pair;
}
