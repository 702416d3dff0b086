use Rattle.tl_c_beats.proofs.Closing.{closes}
use Rattle.tl_c.proofs.Keeping.{held_at, kept, close_keeps, same_side_a}
use Rattle.tl_c.specs.Calls.{sends_a}
use Rattle.tl_c.proofs.closes.tl_close_a.Goals as goal

pub returns : goal.returns
returns c =
    let was = held_at c.in-Some-on_held.ensures.some c.deref_mut.ensures.value in
    let rest = close_keeps sends_a c.close_a.ensures in
    record {
      close = closes (λ q. record { side = q }) {q = c.deref_mut.result.now.side} {q' = c.close_a.new.client} was c.on_held-put.ensures.held
          (λ x s. s) (λ x s. s) c.close_a.ensures;
      kept = kept _ {h = c.deref_mut.result.now} {k = record { side = c.close_a.new.client }} was c.on_held-put.ensures.held
          (same_side_a rest, rest) c.on_held-take.ensures.number c.on_held-put.ensures.number;
    }
