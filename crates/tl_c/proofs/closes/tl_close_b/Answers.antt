use Rattle.tl_c_beats.proofs.Closing.{closes}
use Rattle.tl_c.proofs.Keeping.{held_at, kept, close_keeps, same_side_b}
use Rattle.tl_c.specs.Calls.{sends_b}
use Rattle.tl_c.proofs.closes.tl_close_b.Goals as goal

pub returns : goal.returns
returns c =
    let was = held_at c.in-Some-on_held.ensures.some c.deref_mut.ensures.value in
    let rest = close_keeps sends_b c.close_b.ensures in
    record {
      close = closes (λ q. record { side = q }) {q = c.deref_mut.result.now.side} {q' = c.close_b.new.manager} was c.on_held-put.ensures.held
          (λ x s. s) (λ x s. s) c.close_b.ensures;
      kept = kept _ {h = c.deref_mut.result.now} {k = record { side = c.close_b.new.manager }} was c.on_held-put.ensures.held
          (same_side_b rest, rest) c.on_held-take.ensures.number c.on_held-put.ensures.number;
    }
