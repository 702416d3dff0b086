use Rattle.tl_ring.proofs.Names.{◌≡◌, ◌≤◌, ◌+◌, ◌++◌, ◌∷◌, [], length, drop, arith, ap, ◌∙◌, drop-append-le, STAGE_CAPACITY}
use denote.Param.{layout, copied}
use Rattle.tl_ring.proofs.Answered.{only_item}
use Rattle.tl_ring.proofs.FieldSizes.{part_small}
use Rattle.tl_ring.specs.contracts.queue.Queue.{the_row}
use Rattle.tl_ring.proofs.queue.Queue.append.Goals as goal
use Rattle.tl_ring.proofs.queue.Queue.append.Goals.{then-more-len, else-more-len}

-- the items are a part of the queue, and take no more memory
pub len-requires : goal.len-requires
len-requires g c = part_small (layout (the_row (copied 0 g.row.T))) 0 9223372036854775808 c.requires-raw.1.0

pub cut_front-requires : goal.cut_front-requires
cut_front-requires g c = (
  part_small (layout (the_row (copied 0 g.row.T))) 0 9223372036854775808 c.requires-raw.1.0,
  c.self.invariant,
)

pub try_extend_from_slice-requires : goal.try_extend_from_slice-requires
try_extend_from_slice-requires g c =
    part_small (layout (the_row (copied 0 g.row.T))) 0 9223372036854775808 c.requires-raw.1.0

pub overflow_sub-len : goal.overflow_sub-len
overflow_sub-len g c = c.len.ensures.fits

-- there is room for all of them
pub unreachable-requires : goal.unreachable-requires
unreachable-requires g c =
    let s = c.if-more-len.self-inside in
    let room : length s.items.items + length c.args.more.now ≤ STAGE_CAPACITY = elim c.if-more-len.branch [
      | then-more-len w ↦ (let size = ap (λ q. length q.items.items) w.self-inside-is in let cut = ap length (w.cut_front.ensures ∙ c.self.view_is) in
          omega (arith, size, cut, c.requires))
      | else-more-len w ↦ (let size = ap (λ q. length q.items.items) w.self-inside-is in
          omega (arith, size, w.if-more-len.false, c.len.ensures.value, c.len.ensures.fits))
    ] in
    let taken = c.in-Err.ensures.variant.1 room in absurd (cc)

pub invariant_of-self : goal.invariant_of-self
invariant_of-self g c =
    let s = c.if-more-len.self-inside in
    let within : s.first ≤ length s.items.items = elim c.if-more-len.branch [
      | then-more-len w ↦ (let first = ap (λ q. q.first) w.self-inside-is in omega (arith, first))
      | else-more-len w ↦ rw w.self-inside-is c.self.invariant
    ] in
    let grown : s.first ≤ length c.push.new.self.items = omega (arith, within, c.push.ensures.len) in grown

pub invariant_of-self-2 : goal.invariant_of-self-2
invariant_of-self-2 g c =
    let s = c.if-more-len.self-inside in
    let within : s.first ≤ length s.items.items = elim c.if-more-len.branch [
      | then-more-len w ↦ (let first = ap (λ q. q.first) w.self-inside-is in omega (arith, first))
      | else-more-len w ↦ rw w.self-inside-is c.self.invariant
    ] in
    let grown : s.first ≤ length c.try_extend_from_slice.new.self.items = omega (arith, within, c.in-Ok.ensures.len) in grown

pub returns-in-len1 : goal.returns-in-len1
returns-in-len1 g c =
    let s = c.if-more-len.self-inside in
    let same : drop s.first s.items.items ≡ c.args.self.now = elim c.if-more-len.branch [
      | then-more-len w ↦ ap (λ q. drop q.first q.items.items) w.self-inside-is ∙ w.cut_front.ensures ∙ c.self.view_is
      | else-more-len w ↦ ap (λ q. drop q.first q.items.items) w.self-inside-is ∙ c.self.view_is
    ] in
    let within : s.first ≤ length s.items.items = elim c.if-more-len.branch [
      | then-more-len w ↦ (let first = ap (λ q. q.first) w.self-inside-is in omega (arith, first))
      | else-more-len w ↦ rw w.self-inside-is c.self.invariant
    ] in
    let one = only_item c.args.more.now c.item-item.result c.in-len1.len_at_least c.in-len1.len_below c.item-item.is in
    ap (drop s.first) c.push.ensures.items ∙ drop-append-le s.first s.items.items (c.item-item.result ∷ []) within ∙
    ap (λ l. l ++ c.item-item.result ∷ []) same ∙
    ap (λ l. c.args.self.now ++ l) one

-- whether or not the items were moved to the start, the queue is what it was
pub returns : goal.returns
returns g c =
    let s = c.if-more-len.self-inside in
    let same : drop s.first s.items.items ≡ c.args.self.now = elim c.if-more-len.branch [
      | then-more-len w ↦ ap (λ q. drop q.first q.items.items) w.self-inside-is ∙ w.cut_front.ensures ∙ c.self.view_is
      | else-more-len w ↦ ap (λ q. drop q.first q.items.items) w.self-inside-is ∙ c.self.view_is
    ] in
    let within : s.first ≤ length s.items.items = elim c.if-more-len.branch [
      | then-more-len w ↦ (let first = ap (λ q. q.first) w.self-inside-is in omega (arith, first))
      | else-more-len w ↦ rw w.self-inside-is c.self.invariant
    ] in
    ap (drop s.first) c.in-Ok.ensures.ok ∙ drop-append-le s.first s.items.items c.args.more.now within ∙ ap (λ l. l ++ c.args.more.now) same
