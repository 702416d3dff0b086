use Rattle.tl_ring.proofs.Names.{refl}
use Rattle.tl_ring.proofs.outbox.Outbox.offer.Goals as goal

pub returns-in-Err : goal.returns-in-Err
returns-in-Err g c = record {
  admitted = c.in-Err.ensures.admitted;
  accepted = λ bs homes sent stands. tt;
  first_fault = c.in-Err.ensures.first_fault;
  still = c.requires.2.1;
  refused = refl;
}

pub returns : goal.returns
returns g c = record {
  admitted = c.in-Ok.ensures.admitted;
  accepted = c.offer_at.ensures.accepted;
  first_fault = λ bs homes sent stands. tt;
  still = c.offer_at.ensures.still;
  refused = tt;
}
