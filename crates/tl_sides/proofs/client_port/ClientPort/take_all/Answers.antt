use Rattle.std.proofs.Common.{◌++◌, map, refl, subst, get_or}
use Rattle.tl_sides.proofs.Words.{rules_d, Answer}
use Rattle.tl_settle.specs.Books.{KnowsClient}
use Rattle.tl_sides.proofs.BridgeSteps.{lawful_head}
use Rattle.tl_sides.proofs.Layouts.{client_layout, part_small, beat_small}
use Rattle.tl_sides.proofs.client_port.ClientPort.take_all.Goals as goal

pub as_slice-requires : goal.as_slice-requires
as_slice-requires g c = (
  part_small (client_layout g.row.C g.row.M g.row.A g.A.Allocator) 3 9223372036854775808 c.requires-raw.1.1.1.0,
  beat_small g.row.C c.requires,
)

pub note_all-requires : goal.note_all-requires
note_all-requires g c = record {
  can = λ k b lt.
      (c.requires, lawful_head rules_d {w = g.row.C} (get_or c.as_slice.result.now k b) (c.as_slice.ensures.lawful k b lt));
}

pub note_all-requires-room-N-Notes : goal.note_all-requires-room-N-Notes
note_all-requires-room-N-Notes g c κs lives =
    part_small (client_layout g.row.C g.row.M g.row.A g.A.Allocator) 5 9223372036854775808 c.requires-raw.1.1.1.0

pub note_all-requires-room-N-Notes-2 : goal.note_all-requires-room-N-Notes-2
note_all-requires-room-N-Notes-2 g c κs lives = beat_small g.row.C c.requires

pub take_all-requires : goal.take_all-requires
take_all-requires g c = part_small (client_layout g.row.C g.row.M g.row.A g.A.Allocator) 1 9223372036854775808 c.requires-raw.1.1.1.0

pub take_all-requires-2 : goal.take_all-requires-2
take_all-requires-2 g c = part_small (client_layout g.row.C g.row.M g.row.A g.A.Allocator) 3 9223372036854775808 c.requires-raw.1.1.1.0

pub returns : goal.returns
returns g c = rw (← c.self.view_is) (rw (c.take_all.ensures, c.take_all-2.ensures) (record {
  book = λ es h. subst (λ q. KnowsClient c.note_all.new.book (es ++ map Answer q)) c.as_slice.ensures.beats (c.note_all.ensures es h);
  rest = refl;
}))
