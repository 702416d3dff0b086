use denote.Param.{layout, param, number, copied}
use Rattle.tl_ring.specs.contracts.inbox.Inbox.{the_row}
use Rattle.tl_ring.proofs.FieldSizes.{part_small}
use Rattle.tl_ring.proofs.inbox.Inbox.len.Goals as goal

pub len-requires : goal.len-requires
len-requires g c = part_small (layout (the_row (param 0 g.row.K) (param 1 (number g.row.V)) (copied 2 g.row.K-Head) g.K.Channel g.K.Head.PartialEq
    g.K.Head.Default)) 0 9223372036854775808 c.requires-raw.1.1.1

pub returns : goal.returns
returns g c =
    rw (← c.self.view_is) (record { count = c.len.ensures.value; most = c.len.ensures.within })
