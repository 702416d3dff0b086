use Rattle.tl_ring.proofs.Names.{refl, ap, the_row}
use Rattle.tl_ring.proofs.Moves.{not-ok}
use Rattle.tl_ring.proofs.PipeSteps.{stands_new}
use denote.Param.{layout, param, number, copied}
use Rattle.tl_ring.proofs.FieldSizes.{part_small}
use Rattle.tl_ring.proofs.pipe.SyncPipe.new.Goals as goal

pub new-requires : goal.new-requires
new-requires g c =
    let row = layout (the_row (param 0 g.row.K) (param 1 (number g.row.W)) (param 2 (number g.row.V)) (param 3 g.row.A) (copied 4 g.row.K-Head)
    g.K.Channel g.K.Head.PartialEq g.K.Head.Default g.A.Allocator) in
    part_small row 1 9223372036854775808 c.requires-raw.1.1.1.1.1.0

pub new-requires-in-Ok : goal.new-requires-in-Ok
new-requires-in-Ok g c =
    let row = layout (the_row (param 0 g.row.K) (param 1 (number g.row.W)) (param 2 (number g.row.V)) (param 3 g.row.A) (copied 4 g.row.K-Head)
    g.K.Channel g.K.Head.PartialEq g.K.Head.Default g.A.Allocator) in
    part_small row 0 9223372036854775808 c.requires-raw.1.1.1.1.1.0

pub new-requires-in-Ok-2 : goal.new-requires-in-Ok-2
new-requires-in-Ok-2 g c =
    let row = layout (the_row (param 0 g.row.K) (param 1 (number g.row.W)) (param 2 (number g.row.V)) (param 3 g.row.A) (copied 4 g.row.K-Head)
    g.K.Channel g.K.Head.PartialEq g.K.Head.Default g.A.Allocator) in
    part_small row 2 9223372036854775808 c.requires-raw.1.1.1.1.1.0

pub returns-in-Ok : goal.returns-in-Ok
returns-in-Ok g c =
    let made = c.in-Ok.ensures.new in
    let stands = c.new-in-Ok.ensures.stands c.requires.near c.requires.far in
    record {
      new = stands_new g.K.Channel.rules g.met.K.Channel.partial_masked _ c.args.ring (c.in-Ok.ensures.size refl).0 stands
          (ap (λ q. q.capacity) made) c.new-in-Ok.ensures.ready.0 (ap (λ q. q.items) made) c.new-in-Ok-2.ensures c.new-in-Ok.ensures.ready.1;
      size = λ made. c.in-Ok.ensures.size refl;
      ring_size = tt;
    }

pub returns-in-Err : goal.returns-in-Err
returns-in-Err g c =
    record { new = tt; size = λ made. not-ok made; ring_size = c.in-Err.ensures.ring_size }
