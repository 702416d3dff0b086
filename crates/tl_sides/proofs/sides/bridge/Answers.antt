use Rattle.std.proofs.Common.{refl, lit<}
use Rattle.std.proofs.lemmas.Bool.{false≢true}
use Rattle.tl_sides.proofs.Layouts.{client_side_layout, manager_side_layout, beat_small, inner_small}
use Rattle.tl_sides.proofs.sides.bridge.Goals as goal

-- each book is a part of a part of its side
pub new_parts-requires : goal.new_parts-requires
new_parts-requires g c =
    let client = client_side_layout g.row.C g.row.M g.row.A g.A.Allocator in
    let manager = manager_side_layout g.row.C g.row.M g.row.A g.A.Allocator in
    (inner_small client 0 5 9223372036854775808 c.requires-raw.1.1.1.0, inner_small manager 0 5 9223372036854775808 c.requires-raw.1.1.1.1.0)

-- rings are made and discarded whose beats fit in memory
pub new_parts-requires-room-RingA-NewRing : goal.new_parts-requires-room-RingA-NewRing
new_parts-requires-room-RingA-NewRing g c κs within = beat_small g.row.M c.requires.manager

pub new_parts-requires-room-RingB-NewRing : goal.new_parts-requires-room-RingB-NewRing
new_parts-requires-room-RingB-NewRing g c κs within = beat_small g.row.C c.requires.client

pub new_parts-requires-room-RingC-NewRing : goal.new_parts-requires-room-RingC-NewRing
new_parts-requires-room-RingC-NewRing g c κs within = beat_small g.row.M c.requires.manager

pub new_parts-requires-room-RingD-NewRing : goal.new_parts-requires-room-RingD-NewRing
new_parts-requires-room-RingD-NewRing g c κs within = beat_small g.row.C c.requires.client

pub new_parts-requires-room-RingE-NewRing : goal.new_parts-requires-room-RingE-NewRing
new_parts-requires-room-RingE-NewRing g c κs within = beat_small g.row.M c.requires.manager

pub sides_over-requires : goal.sides_over-requires
sides_over-requires g c =
    let near = beat_small g.row.C c.requires.client in
    let far = beat_small g.row.M c.requires.manager in
    let client = c.requires-raw.1.1.1.0 in
    let manager = c.requires-raw.1.1.1.1.0 in
    let client_book = inner_small (client_side_layout g.row.C g.row.M g.row.A g.A.Allocator) 0 5 9223372036854775808 client in
    let manager_book = inner_small (manager_side_layout g.row.C g.row.M g.row.A g.A.Allocator) 0 5 9223372036854775808 manager in
    (far, (lit< tt, (near, (lit< tt, (far, (lit< tt, (near, (lit< tt, (far, (lit< tt, (client_book, (manager_book, (client, manager)))))))))))))

-- if nothing is made, only the fault has content
pub returns-in-Err : goal.returns-in-Err
returns-in-Err g c = record {
  pair = tt;
  client = tt;
  manager = tt;
  client_knows = tt;
  manager_knows = tt;
  size = λ made. absurd (false≢true made);
  ring_size = c.in-Err.ensures.ring_size;
}

pub returns : goal.returns
returns g c =
    let parts = c.in-Ok.ensures in
    let sides = c.sides_over.ensures c.args.ring c.requires.client c.requires.manager parts.new.0 parts.new.1 parts.new.2 in
    record {
      pair = sides.pair;
      client = sides.client;
      manager = sides.manager;
      client_knows = sides.client_knows;
      manager_knows = sides.manager_knows;
      size = λ made. parts.size refl;
      ring_size = tt;
    }
