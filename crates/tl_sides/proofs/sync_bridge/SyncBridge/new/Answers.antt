use Rattle.std.proofs.Common.{refl}
use Rattle.std.proofs.lemmas.Bool.{false≢true}
use Rattle.tl_sides.proofs.Layouts.{bridge_layout, part_small, inner_small}
use Rattle.tl_sides.proofs.sync_bridge.SyncBridge.new.Goals as goal

-- each part of the result, and each book, takes no more memory than the result
pub new_parts-requires : goal.new_parts-requires
new_parts-requires g c =
    let row = bridge_layout g.row.C g.row.M g.row.A g.A.Allocator in
    let whole = c.requires-raw.1.1.1.0 in
    (inner_small row 0 5 9223372036854775808 whole, inner_small row 1 5 9223372036854775808 whole)

-- and each ring that is made and discarded on the way
pub new_parts-requires-room-RingA-NewRing : goal.new_parts-requires-room-RingA-NewRing
new_parts-requires-room-RingA-NewRing g c κs within =
    part_small (bridge_layout g.row.C g.row.M g.row.A g.A.Allocator) 2 9223372036854775808 c.requires-raw.1.1.1.0

pub new_parts-requires-room-RingB-NewRing : goal.new_parts-requires-room-RingB-NewRing
new_parts-requires-room-RingB-NewRing g c κs within =
    part_small (bridge_layout g.row.C g.row.M g.row.A g.A.Allocator) 3 9223372036854775808 c.requires-raw.1.1.1.0

pub new_parts-requires-room-RingC-NewRing : goal.new_parts-requires-room-RingC-NewRing
new_parts-requires-room-RingC-NewRing g c κs within =
    part_small (bridge_layout g.row.C g.row.M g.row.A g.A.Allocator) 4 9223372036854775808 c.requires-raw.1.1.1.0

pub new_parts-requires-room-RingD-NewRing : goal.new_parts-requires-room-RingD-NewRing
new_parts-requires-room-RingD-NewRing g c κs within =
    part_small (bridge_layout g.row.C g.row.M g.row.A g.A.Allocator) 5 9223372036854775808 c.requires-raw.1.1.1.0

pub new_parts-requires-room-RingE-NewRing : goal.new_parts-requires-room-RingE-NewRing
new_parts-requires-room-RingE-NewRing g c κs within =
    part_small (bridge_layout g.row.C g.row.M g.row.A g.A.Allocator) 6 9223372036854775808 c.requires-raw.1.1.1.0

pub bridge_over-requires : goal.bridge_over-requires
bridge_over-requires g c =
    let row = bridge_layout g.row.C g.row.M g.row.A g.A.Allocator in
    let whole = c.requires-raw.1.1.1.0 in
    let client = inner_small row 0 5 9223372036854775808 whole in
    let manager = inner_small row 1 5 9223372036854775808 whole in
    let a = part_small row 2 9223372036854775808 whole in
    let b = part_small row 3 9223372036854775808 whole in
    let c = part_small row 4 9223372036854775808 whole in
    let d = part_small row 5 9223372036854775808 whole in
    let e = part_small row 6 9223372036854775808 whole in
    (a, (b, (c, (d, (e, (client, (manager, whole)))))))

pub returns : goal.returns
returns g c =
    let parts = c.in-Ok.ensures in
    record {
      new =
          c.bridge_over.ensures c.args.ring (parts.size refl).0 c.requires.client c.requires.manager parts.new.0 parts.new.1 parts.new.2;
      size = λ made. parts.size refl;
      ring_size = tt;
    }

pub returns-in-Err : goal.returns-in-Err
returns-in-Err g c = record { new = tt; size = λ made. absurd (false≢true made); ring_size = c.in-Err.ensures.ring_size }
