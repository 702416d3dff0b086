use Rattle.tl_ring.proofs.Names.{refl, ap, arith}
use Rattle.tl_ring.specs.Halves.{items}
use denote.Memory.{lone}
use denote.Param.{layout, param, number, copied}
use Rattle.tl_ring.specs.contracts.ends.SendEnd.{the_row}
use Rattle.tl_ring.specs.contracts.ends.TakeEnd as take
use Rattle.tl_ring.proofs.EndSteps.{sends_new}
use Rattle.tl_ring.proofs.FieldSizes.{part_small, inner_small, beat_in_queue}
use Rattle.tl_ring.proofs.Moves.{not-ok}
use Rattle.tl_ring.proofs.pair.ring_pair.Goals as goal

pub invariant_of-result : goal.invariant_of-result
invariant_of-result g c = c.new.ensures.ready.1

pub from_half-requires : goal.from_half-requires
from_half-requires g c =
    let row = layout (take.the_row (param 0 g.row.K) (param 1 (number g.row.W)) (param 2 (number g.row.V)) (param 3 g.row.A) (copied 4 g.row.K-Head)
    g.K.Channel g.K.Head.Clone g.K.Head.Eq g.K.Head.PartialEq g.K.Head.Default g.A.Allocator) in
    let size = c.requires-raw.1.1.1.1.1.1.0 in
    let beat = beat_in_queue (lone g.row.K-Head.mir) (layout g.row.K-Head) g.row.V 9223372036854775808
    (inner_small row 0 0 9223372036854775808 size) in
    (beat, (omega arith, part_small row 1 9223372036854775808 size))

pub new-requires-in-Ok : goal.new-requires-in-Ok
new-requires-in-Ok g c = part_small (layout (take.the_row (param 0 g.row.K) (param 1 (number g.row.W)) (param 2 (number g.row.V)) (param 3 g.row.A)
    (copied 4 g.row.K-Head) g.K.Channel g.K.Head.Clone g.K.Head.Eq g.K.Head.PartialEq g.K.Head.Default g.A.Allocator)) 0 9223372036854775808
    c.requires-raw.1.1.1.1.1.1.0

pub new-requires : goal.new-requires
new-requires g c = part_small (layout (the_row (param 0 g.row.K) (param 1 (number g.row.W)) (param 2 (number g.row.V)) (param 3 g.row.A)
    (copied 4 g.row.K-Head) g.K.Channel g.K.Head.Clone g.K.Head.Eq g.K.Head.PartialEq g.K.Head.Default g.A.Allocator)) 0 9223372036854775808
    c.requires-raw.1.1.1.1.1.0

pub new_ring-requires : goal.new_ring-requires
new_ring-requires g c = (
  beat_in_queue (lone g.row.K-Head.mir) (layout g.row.K-Head) g.row.V 9223372036854775808
      (inner_small (layout (the_row (param 0 g.row.K) (param 1 (number g.row.W)) (param 2 (number g.row.V)) (param 3 g.row.A) (copied 4 g.row.K-Head)
      g.K.Channel g.K.Head.Clone g.K.Head.Eq g.K.Head.PartialEq g.K.Head.Default g.A.Allocator)) 0 1 9223372036854775808 c.requires-raw.1.1.1.1.1.0),
  omega arith,
)

pub returns-in-Ok : goal.returns-in-Ok
returns-in-Ok g c =
    let new = c.in-Ok.ensures.new in
    record {
      pair = rw c.from_half.ensures new.pair;
      send = sends_new g.K.Channel.rules g.met.K.Channel.partial_masked _ c.args.ring new.some_room
          (c.new.ensures.stands c.requires.near c.requires.far) c.new.ensures.ready.0 (ap items new.none_sent) new.room c.new.ensures.ready.1;
      take = rw (c.from_half.ensures, c.new-in-Ok.ensures) (ap items new.none_received);
      known = rw c.from_half.ensures (new.all_free, ap items new.none_known, c.new-in-Ok.ensures);
      size = λ made. c.in-Ok.ensures.size refl;
      ring_size = tt;
    }

pub returns-in-Err : goal.returns-in-Err
returns-in-Err g c =
    record { pair = tt; send = tt; take = tt; known = tt; size = λ made. not-ok made; ring_size = c.in-Err.ensures.ring_size }
