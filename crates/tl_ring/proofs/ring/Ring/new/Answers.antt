use Rattle.tl_ring.proofs.Names.{[], refl, rules, IsLawfulBeat}
use Rattle.tl_ring.proofs.Answered.{all_of_none}
use Rattle.tl_ring.proofs.Moves.{not-ok, refused_size, want_of_memory}
use Rattle.tl_ring.proofs.ring.Ring.new.Goals as goal

pub is_ring_size-requires : goal.is_ring_size-requires
is_ring_size-requires g c = tt

pub drop-alloc-requires : goal.drop-alloc-requires
drop-alloc-requires g c κs within = within

pub with_capacity-requires : goal.with_capacity-requires
with_capacity-requires g c κs = λ within. (search rules, within.1)

pub invariant_of-result : goal.invariant_of-result
invariant_of-result g c =
    let fits = c.is_ring_size.ensures.0 c.if-not-is_ring_size.false in
    rw c.in-Ok.ensures (fits.0, fits.1, all_of_none (λ b. IsLawfulBeat g.K.Channel.rules b) [] refl)

pub returns-then-not-is_ring_size : goal.returns-then-not-is_ring_size
returns-then-not-is_ring_size g c =
    record {
      new = tt;
      size = λ made. not-ok made;
      ring_size = refused_size c.args.size c.is_ring_size.result c.is_ring_size.ensures c.if-not-is_ring_size.true;
    }

pub returns-in_default : goal.returns-in_default
returns-in_default g c =
    record { new = tt; size = λ made. not-ok made; ring_size = want_of_memory c.args.size (c.is_ring_size.ensures.0 c.if-not-is_ring_size.false) }

pub returns : goal.returns
returns g c =
    record { new = rw c.in-Ok.ensures refl; size = λ made. c.is_ring_size.ensures.0 c.if-not-is_ring_size.false; ring_size = tt }
