use Rattle.tl_ring.proofs.Names.{◌≡◌, ◌≤◌, ◌+◌, ◌-◌, length, drop, ap, sym, ◌∙◌, arith, length-drop, drop-drop}
use denote.Param.{layout, copied}
use Rattle.tl_ring.proofs.FieldSizes.{part_small}
use Rattle.tl_ring.specs.contracts.queue.Queue.{the_row}
use Rattle.tl_ring.proofs.queue.Queue.drop_front.Goals as goal

pub len-requires : goal.len-requires
len-requires g c = c.requires-raw.1.0

pub len-requires-2 : goal.len-requires-2
len-requires-2 g c = part_small (layout (the_row (copied 0 g.row.T))) 0 9223372036854775808 c.requires-raw.1.0

pub overflow_sub-left : goal.overflow_sub-left
overflow_sub-left g c = rw c.len.ensures.value c.requires

pub overflow_sub-self : goal.overflow_sub-self
overflow_sub-self g c =
    let left = ap length (sym c.self.view_is) ∙ length-drop c.self.inside.first c.self.inside.items.items in
    omega (arith, left, c.len.ensures.value, c.len-2.ensures.value)

pub invariant_of-self : goal.invariant_of-self
invariant_of-self g c =
    let within : c.len-2.result - (c.len.result - c.args.count) ≤ length c.self.inside.items.items = omega (arith, c.len-2.ensures.value) in within

pub returns : goal.returns
returns g c =
    let s = c.self.inside in
    let left = ap length (sym c.self.view_is) ∙ length-drop s.first s.items.items in
    let at : c.len-2.result - (c.len.result - c.args.count) ≡ s.first + c.args.count =
    omega (arith, left, c.self.invariant, c.requires, c.len.ensures.value, c.len-2.ensures.value) in
    ap (λ k. drop k s.items.items) at ∙ sym (drop-drop c.args.count s.first s.items.items) ∙ ap (drop c.args.count) c.self.view_is
