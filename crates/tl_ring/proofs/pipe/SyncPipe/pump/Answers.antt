use Rattle.tl_ring.proofs.Names.{◌≤◌, ◌-◌, length, min, arith, the_row}
use Rattle.tl_ring.proofs.PipeSteps.{stands_pushed}
use denote.Param.{layout, param, number, copied}
use Rattle.tl_ring.proofs.FieldSizes.{part_small}
use Rattle.tl_ring.proofs.pipe.SyncPipe.pump.Goals as goal

pub pump-requires : goal.pump-requires
pump-requires g c =
    let row = layout (the_row (param 0 g.row.K) (param 1 (number g.row.W)) (param 2 (number g.row.V)) (param 3 g.row.A) (copied 4 g.row.K-Head)
    g.K.Channel g.K.Head.PartialEq g.K.Head.Default g.A.Allocator) in
    (part_small row 0 9223372036854775808 c.requires-raw.1.1.1.1.1, part_small row 1 9223372036854775808 c.requires-raw.1.1.1.1.1)

pub returns : goal.returns
returns g c =
    let fits : c.pump.result ≤ min (length c.self.inside.outbox.stage) (c.self.inside.ring.capacity - length c.self.inside.ring.items) =
    omega (arith, c.pump.ensures.count) in
    rw (← c.self.view_is) (record {
      count = c.pump.ensures.count;
      moved = λ x h. rw (c.pump.ensures.outbox, c.pump.ensures.ring)
          (stands_pushed g.K.Channel.rules g.met.K.Channel.partial_masked c.pump.result _ x fits h);
      most = c.pump.ensures.most;
    })
