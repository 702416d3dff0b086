use Rattle.tl_ring.proofs.Names.{◌≤◌, ◌-◌, length, min, arith, inbox_room, the_row}
use Rattle.tl_ring.proofs.PipeSteps.{stands_popped}
use denote.Param.{layout, param, number, copied}
use Rattle.tl_ring.proofs.FieldSizes.{part_small}
use Rattle.tl_ring.proofs.pipe.SyncPipe.fetch.Goals as goal

pub fetch-requires : goal.fetch-requires
fetch-requires g c =
    let row = layout (the_row (param 0 g.row.K) (param 1 (number g.row.W)) (param 2 (number g.row.V)) (param 3 g.row.A) (copied 4 g.row.K-Head)
    g.K.Channel g.K.Head.PartialEq g.K.Head.Default g.A.Allocator) in
    (part_small row 1 9223372036854775808 c.requires-raw.1.1.1.1.1, part_small row 2 9223372036854775808 c.requires-raw.1.1.1.1.1)

pub returns : goal.returns
returns g c =
    let fits : c.fetch.result ≤ min (length c.self.inside.ring.items) (inbox_room - length c.self.inside.inbox) =
    omega (arith, c.fetch.ensures.count) in
    rw (← c.self.view_is) (record {
      count = c.fetch.ensures.count;
      moved = λ x h. rw (c.fetch.ensures.ring, c.fetch.ensures.inbox)
          (stands_popped g.K.Channel.rules g.met.K.Channel.partial_masked c.fetch.result _ x fits h);
      most = c.fetch.ensures.most;
    })
