use Rattle.std.specs.Prelude.{◌↔◌, true, IsTrue}
use Rattle.std.proofs.Common.{refl, sym, ◌∙◌, subst, lit<}
use Rattle.tl_ring.specs.Ends.{as_pipe}
use Rattle.tl_ring.specs.Pipe.{IsReady}
use Rattle.tl_c_beats.proofs.Offering.{offers}
use Rattle.tl_c.proofs.BothWidths.{widths}
use Rattle.tl_c.proofs.Keeping.{held_at, kept, same_side_c}
use Rattle.tl_c.proofs.offers.tl_offer_c.Goals as goal

pub offer_held-offer_c-requires : goal.offer_held-offer_c-requires
offer_held-offer_c-requires c =
    let same = c.offer_held-deref.ensures ∙ sym c.offer_held-deref_mut.ensures.value in
    (lit< tt, (lit< tt, (widths.0, (widths.1, subst (λ h. IsReady (as_pipe h.side.c)) same (c.if-offer_held.ensures.0 refl)))))

pub returns-2 : goal.returns-2
returns-2 c =
    let was = held_at c.in-Some-offer_held.ensures.some c.offer_held-deref_mut.ensures.value in
    let same = c.offer_held-deref.ensures ∙ sym c.offer_held-deref_mut.ensures.value in
    record {
      offer = offers (λ q. record { side = q }) c.offer_held-deref_mut.result.now.side c.offer_held-offer_c.new.self
          (as_pipe c.offer_held-deref_mut.result.now.side.c) (λ x s. (s.c.pipe.stage, s.c.pipe.closed)) was c.offer_held-put-2.ensures.held
          (λ x s. s) (λ x s. s) c.offer_held-offer_c.result c.beat_c-beat.ensures
          (subst (λ h. IsTrue true ↔ IsReady (as_pipe h.side.c)) same c.if-offer_held.ensures) c.offer_held.ensures c.offer_held-offer_c.ensures;
      kept = kept _ {h = c.offer_held-deref_mut.result.now} {k = record { side = c.offer_held-offer_c.new.self }} was
          c.offer_held-put-2.ensures.held (same_side_c c.offer_held-offer_c.ensures.rest, c.offer_held-offer_c.ensures.rest)
          c.offer_held-take.ensures.number c.offer_held-put-2.ensures.number;
    }
