use Rattle.tl_ring.proofs.Names.{◌==◌, refl, and_parts}
use denote.Param.{layout, param, number, copied}
use Rattle.tl_ring.specs.contracts.outbox.Outbox.{the_row}
use Rattle.tl_ring.proofs.FieldSizes.{part_small}
use Rattle.tl_ring.proofs.Moves.{none_in_one}
use Rattle.tl_ring.proofs.outbox.Outbox.is_sent_out.Goals as goal

pub len-requires : goal.len-requires
len-requires g c = part_small (layout (the_row (param 0 g.row.K) (param 1 (number g.row.W)) (param 2 (number g.row.V)) (copied 3 g.row.K-Head)
    g.K.Channel g.K.Head.PartialEq g.K.Head.Default)) 1 9223372036854775808 c.requires-raw.1.1.1.1

pub returns : goal.returns
returns g c =
    let none = none_in_one c.self.inside.stage c.len.result c.len.ensures.value in
    rw (← c.self.view_is) (
      λ answered. (let each = and_parts (c.len.result == 0) c.self.inside.closed answered in (each.1, none.0 each.0)),
      λ (shut, empty). rw (none.1 empty, shut) refl,
    )
