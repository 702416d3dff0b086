use Rattle.tl_ring.proofs.Names.{◌≤◌, ◌≡◌, length, ap, arith, STAGE_CAPACITY}
use Rattle.tl_ring.proofs.Fronts.{least_entered}
use Rattle.tl_ring.proofs.halves.push_queue.Goals as goal

pub as_slice-requires : goal.as_slice-requires
as_slice-requires g c = c.requires-raw.1.1.1.0

pub push_stamped-count-requires : goal.push_stamped-count-requires
push_stamped-count-requires g c = rw c.as_slice.ensures.value c.requires

pub drop_front-requires : goal.drop_front-requires
drop_front-requires g c = (c.requires-raw.1.1.1.0, rw c.as_slice.ensures.value at c.push_stamped-count.ensures.count)

pub returns : goal.returns
returns g c =
    let p = c.push_stamped-count in
    let e = rw c.as_slice.ensures.value at p.ensures in
    let most : p.result ≤ length c.args.queue.now = e.count in
    let fits : p.result ≤ STAGE_CAPACITY = omega (arith, most, ap length c.as_slice.ensures.value, c.as_slice.ensures.within) in
    record {
      least = least_entered (length c.args.queue.now) _ _ p.result e.known e.most;
      most = (most, fits);
      queue = c.drop_front.ensures;
      ring = e.ring;
      sent = e.sent;
      known = e.known;
    }
