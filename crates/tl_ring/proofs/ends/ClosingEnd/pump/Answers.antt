use Rattle.std.proofs.Common.{lit<}
use denote.Memory.{lone}
use Rattle.tl_ring.specs.contracts.ends.ClosingEnd.{the_row}
use denote.Param.{layout, param, number, copied}
use Rattle.tl_ring.proofs.FieldSizes.{part_small, inner_small, beat_in_queue}
use Rattle.tl_ring.proofs.Names.{◌∙◌}
use Rattle.tl_ring.proofs.ends.ClosingEnd.pump.Goals as goal

pub invariant_of-self : goal.invariant_of-self
invariant_of-self g c = c.send_staged.ensures.pushed.same_closed ∙ c.self.invariant

pub send_staged-requires : goal.send_staged-requires
send_staged-requires g c =
    let row = layout (the_row (param 0 g.row.K) (param 1 (number g.row.W)) (param 2 (number g.row.V)) (param 3 g.row.A) (copied 4 g.row.K-Head)
    g.K.Channel g.K.Head.Clone g.K.Head.Eq g.K.Head.PartialEq g.K.Head.Default g.A.Allocator) in
    let size = c.requires-raw.1.1.1.1.1 in
    let beat = beat_in_queue (lone g.row.K-Head.mir) (layout g.row.K-Head) g.row.V 9223372036854775808
    (inner_small row 0 1 9223372036854775808 size) in
    (part_small row 0 9223372036854775808 size, (beat, lit< tt))

pub returns : goal.returns
returns g c =
    let e = c.send_staged.ensures in
    rw (← c.self.view_is) (record { least = e.least; most = e.most; pushed = e.pushed; stands = e.stands })
