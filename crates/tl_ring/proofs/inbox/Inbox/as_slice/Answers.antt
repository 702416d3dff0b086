use Rattle.tl_ring.specs.contracts.inbox.Inbox.{the_row}
use denote.Param.{layout, param, number, copied}
use Rattle.tl_ring.proofs.FieldSizes.{part_small}
use Rattle.tl_ring.proofs.inbox.Inbox.as_slice.Goals as goal

pub as_slice-requires : goal.as_slice-requires
as_slice-requires g c =
    part_small (layout (the_row (param 0 g.row.K) (param 1 (number g.row.V)) (copied 2 g.row.K-Head) g.K.Channel g.K.Head.PartialEq
    g.K.Head.Default)) 0 9223372036854775808 c.requires-raw.1.1.1.0

pub returns : goal.returns
returns g c =
    rw (← c.self.view_is) (record { beats = c.as_slice.ensures.value; lawful = rw c.as_slice.ensures.value c.self.invariant })
