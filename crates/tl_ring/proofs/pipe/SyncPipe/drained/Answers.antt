use Rattle.tl_ring.proofs.Names.{◌≡◌, ◌+◌, ◌==◌, ℕ, length, ap, arith}
use Rattle.tl_ring.proofs.Moves.{none_in_three, shut_and_none}
use Rattle.tl_ring.proofs.pipe.SyncPipe.drained.Goals as goal

-- no beat is under way if and only if stage, ring and inbox are empty
pub returns : goal.returns
returns g c =
    let p = c.self.inside in
    let at = c.standing-at.result in
    let under_way : ℕ = at.staged + at.in_ring + at.inbox in
    let is = rw (← c.self.view_is) at c.standing-at.ensures in
    let sum : under_way ≡ length p.outbox.stage + length p.ring.items + length p.inbox = omega (arith, is.staged, is.in_ring, is.inbox) in
    let closed = ap (λ pipe. pipe.outbox.closed) c.self-inside.view_is in
    rw (← c.self.view_is, closed) (shut_and_none p.outbox.closed (under_way == 0)
    (none_in_three p.outbox.stage p.ring.items p.inbox under_way sum))

pub standing-at-requires : goal.standing-at-requires
standing-at-requires g c = c.requires-raw.1.1.1.1.1
