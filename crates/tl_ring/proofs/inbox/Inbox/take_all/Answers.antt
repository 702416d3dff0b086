use denote.Param.{layout, param, number, copied}
use Rattle.tl_ring.specs.contracts.inbox.Inbox.{the_row}
use Rattle.tl_ring.proofs.FieldSizes.{part_small}
use Rattle.tl_ring.proofs.Names.{◌∙◌, arith, drop_all, All-drop, IsLawfulBeat}
use Rattle.tl_ring.proofs.inbox.Inbox.take_all.Goals as goal

pub len-count-requires : goal.len-count-requires
len-count-requires g c = part_small (layout (the_row (param 0 g.row.K) (param 1 (number g.row.V)) (copied 2 g.row.K-Head) g.K.Channel
    g.K.Head.PartialEq g.K.Head.Default)) 0 9223372036854775808 c.requires-raw.1.1.1

pub invariant_of-self : goal.invariant_of-self
invariant_of-self g c =
    rw c.drop_front.ensures (All-drop (λ b. IsLawfulBeat g.K.Channel.rules b) c.len-count.result c.self.inside.queue c.self.invariant)

pub returns : goal.returns
returns g c = c.drop_front.ensures ∙ drop_all c.len-count.result c.self.inside.queue (omega (arith, c.len-count.ensures.value))
