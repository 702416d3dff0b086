use Rattle.tl_ring.proofs.Moves.{not-ok, refused_size, want_of_memory}
use Rattle.tl_ring.proofs.halves.new_ring.Goals as goal

pub is_ring_size-requires : goal.is_ring_size-requires
is_ring_size-requires g c = tt

pub returns-clause-size : goal.returns-clause-size
returns-clause-size g c = λ made. c.is_ring_size.ensures.0 c.if-not-is_ring_size.false

pub returns-clause-ring_size : goal.returns-clause-ring_size
returns-clause-ring_size g c = tt

pub returns-then-not-is_ring_size : goal.returns-then-not-is_ring_size
returns-then-not-is_ring_size g c =
    record {
      new = tt;
      size = λ made. not-ok made;
      ring_size = refused_size c.args.size c.is_ring_size.result c.is_ring_size.ensures c.if-not-is_ring_size.true;
    }

pub returns-in_default : goal.returns-in_default
returns-in_default g c =
    record { new = tt; size = λ made. not-ok made; ring_size = want_of_memory c.args.size (c.is_ring_size.ensures.0 c.if-not-is_ring_size.false) }
