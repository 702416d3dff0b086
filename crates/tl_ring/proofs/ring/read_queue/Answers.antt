use Rattle.tl_ring.proofs.Names.{◌≡◌, ◌-◌, ◌++◌, length, drop, append-nil, append_assoc, length-append, sym, ap, refl, ◌∙◌, arith, length-take}
use Rattle.circular_buffer.specs.Buffer.{buffer}
use Rattle.tl_ring.proofs.Moves.{take_of_two, take_of_first}
use Rattle.tl_ring.proofs.ring.read_queue.Goals.{then-from_front-count, else-from_front-count}
use Rattle.tl_ring.proofs.ring.read_queue.Goals as goal

pub len-requires-2 : goal.len-requires-2
len-requires-2 g c = c.requires-raw.1.1

pub append-requires : goal.append-requires
append-requires g c = (
  c.requires-raw.1.1,
  simp length-take (omega (arith, c.min-count.ensures, c.min-from_front.ensures, c.len-2.ensures.value, c.len-2.ensures.within)),
)

pub append-requires-then-from_front-count : goal.append-requires-then-from_front-count
append-requires-then-from_front-count g c = (
  c.requires-raw.1.1,
  simp (c.append.ensures, length-append, length-take)
      (omega (arith, c.min-count.ensures, c.min-from_front.ensures, c.len-2.ensures.value, c.len-2.ensures.within)),
)

pub slice_bounds-append-end : goal.slice_bounds-append-end
slice_bounds-append-end g c = simp length-take (omega (arith, c.min-from_front.ensures))

pub slice_bounds-append-count : goal.slice_bounds-append-count
slice_bounds-append-count g c = omega (arith, c.min-from_front.ensures)

pub slice_bounds-append-length : goal.slice_bounds-append-length
slice_bounds-append-length g c =
    let both = simp length-append at (ap length c.as_slices.ensures) in
    simp length-take (omega (arith, both, c.min-count.ensures, c.len.ensures.len, c.min-from_front.ensures))

pub overflow_sub-len : goal.overflow_sub-len
overflow_sub-len g c = c.len-2.ensures.within

pub overflow_sub-len-2 : goal.overflow_sub-len-2
overflow_sub-len-2 g c = omega (arith, c.min-count.ensures, c.len.ensures.len, c.len-3.ensures.len)

pub returns-then-count-eq0 : goal.returns-then-count-eq0
returns-then-count-eq0 g c = record {
  count = rw (← c.if-count-eq0.true, c.min-count.ensures, c.len.ensures.len, c.len-2.ensures.value) refl;
  ring = refl;
  queue = sym (append-nil c.args.queue.now);
  most = omega arith;
}

-- what is read of both parts of the ring is its first items
pub returns : goal.returns
returns g c =
    let left : length c.args.ring.now.items - (c.len-3.result - c.min-count.result) ≡ c.min-count.result =
    omega (arith, c.len.ensures.len, c.len-3.ensures.len, c.min-count.ensures) in
    record {
      count = rw (c.min-count.ensures, c.len.ensures.len, c.len-2.ensures.value) refl;
      ring = c.truncate_front.ensures ∙ ap (λ k. buffer (drop k c.args.ring.now.items) c.args.ring.now.capacity) left;
      queue = elim c.if-from_front-count.branch [
        | then-from_front-count w ↦ rw (
          w.queue-is,
          w.append-then-from_front-count.ensures,
          c.append.ensures,
          append_assoc,
          c.min-from_front.ensures,
          take_of_two,
          c.as_slices.ensures,
        ) refl
        | else-from_front-count w ↦ rw (w.queue-is, c.append.ensures, c.min-from_front.ensures, ← c.as_slices.ensures)
            (ap (λ t. c.args.queue.now ++ t) (take_of_first c.min-count.result c.as_slices.result.0.now c.as_slices.result.1.now
            (omega (arith, w.if-from_front-count.false, c.min-from_front.ensures))))
      ];
      most = omega (arith, c.min-count.ensures, c.len-2.ensures.value);
    }
