use Rattle.std.proofs.Common.{refl}
use Rattle.std.proofs.lemmas.Bool.{false≢true}
use Rattle.tl_sides.proofs.Words.{want_of_memory}
use Rattle.tl_sides.proofs.making.new_parts.Goals as goal

-- each ring lives as long as what it is made of
pub new_ring-requires : goal.new_ring-requires
new_ring-requires g c κs = λ within. within

pub new_ring-requires-2 : goal.new_ring-requires-2
new_ring-requires-2 g c κs = λ within. within

pub new_ring-requires-3 : goal.new_ring-requires-3
new_ring-requires-3 g c κs = λ within. within

pub new_ring-requires-4 : goal.new_ring-requires-4
new_ring-requires-4 g c κs = λ within. within

pub new_ring-requires-5 : goal.new_ring-requires-5
new_ring-requires-5 g c κs = λ within. within

pub discard-requires : goal.discard-requires
discard-requires g c κs within = within

pub discard-requires-in-Err-new_ring-2 : goal.discard-requires-in-Err-new_ring-2
discard-requires-in-Err-new_ring-2 g c κs within = within

pub discard-requires-in-Err-new_ring-2-2 : goal.discard-requires-in-Err-new_ring-2-2
discard-requires-in-Err-new_ring-2-2 g c κs within = within

pub discard-requires-in-Err-new_ring-3 : goal.discard-requires-in-Err-new_ring-3
discard-requires-in-Err-new_ring-3 g c κs within = within

pub discard-requires-in-Err-new_ring-3-2 : goal.discard-requires-in-Err-new_ring-3-2
discard-requires-in-Err-new_ring-3-2 g c κs within = within

pub discard-requires-in-Err-new_ring-3-3 : goal.discard-requires-in-Err-new_ring-3-3
discard-requires-in-Err-new_ring-3-3 g c κs within = within

pub discard-requires-in-Err-new_ring-4 : goal.discard-requires-in-Err-new_ring-4
discard-requires-in-Err-new_ring-4 g c κs within = within

pub discard-requires-in-Err-new_ring-4-2 : goal.discard-requires-in-Err-new_ring-4-2
discard-requires-in-Err-new_ring-4-2 g c κs within = within

pub discard-requires-in-Err-new_ring-4-3 : goal.discard-requires-in-Err-new_ring-4-3
discard-requires-in-Err-new_ring-4-3 g c κs within = within

pub discard-requires-in-Err-new_ring-4-4 : goal.discard-requires-in-Err-new_ring-4-4
discard-requires-in-Err-new_ring-4-4 g c κs within = within

pub discard-requires-in_default : goal.discard-requires-in_default
discard-requires-in_default g c κs within = within

pub discard-requires-in_default-2 : goal.discard-requires-in_default-2
discard-requires-in_default-2 g c κs within = within

pub discard-requires-in_default-3 : goal.discard-requires-in_default-3
discard-requires-in_default-3 g c κs within = within

pub discard-requires-in_default-4 : goal.discard-requires-in_default-4
discard-requires-in_default-4 g c κs within = within

pub discard-requires-in_default-5 : goal.discard-requires-in_default-5
discard-requires-in_default-5 g c κs within = within

-- if a ring is not made, only the fault has content
pub returns-in-Err : goal.returns-in-Err
returns-in-Err g c = record {
  new = tt;
  size = λ made. absurd (false≢true made);
  ring_size = c.in-Err.ensures.ring_size;
}

pub returns-in-Err-new_ring : goal.returns-in-Err-new_ring
returns-in-Err-new_ring g c = record {
  new = tt;
  size = λ made. absurd (false≢true made);
  ring_size = c.in-Err-new_ring.ensures.ring_size;
}

pub returns-in-Err-new_ring-2 : goal.returns-in-Err-new_ring-2
returns-in-Err-new_ring-2 g c = record {
  new = tt;
  size = λ made. absurd (false≢true made);
  ring_size = c.in-Err-new_ring-2.ensures.ring_size;
}

pub returns-in-Err-new_ring-3 : goal.returns-in-Err-new_ring-3
returns-in-Err-new_ring-3 g c = record {
  new = tt;
  size = λ made. absurd (false≢true made);
  ring_size = c.in-Err-new_ring-3.ensures.ring_size;
}

pub returns-in-Err-new_ring-4 : goal.returns-in-Err-new_ring-4
returns-in-Err-new_ring-4 g c = record {
  new = tt;
  size = λ made. absurd (false≢true made);
  ring_size = c.in-Err-new_ring-4.ensures.ring_size;
}

pub returns-in_default : goal.returns-in_default
returns-in_default g c = record {
  new = tt;
  size = λ made. absurd (false≢true made);
  ring_size = want_of_memory c.args.ring (c.in-Ok.ensures.size refl);
}

pub returns : goal.returns
returns g c = record {
  new = (
    (
      c.in-Ok.ensures.new,
      c.in-Ok-new_ring.ensures.new,
      c.in-Ok-new_ring-2.ensures.new,
      c.in-Ok-new_ring-3.ensures.new,
      c.in-Ok-new_ring-4.ensures.new,
    ),
    c.in-Ok-new.ensures,
    c.in-Ok-new-2.ensures,
  );
  size = λ made. c.in-Ok.ensures.size refl;
  ring_size = tt;
}
