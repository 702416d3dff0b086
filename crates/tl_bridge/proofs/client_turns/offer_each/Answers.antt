use Rattle.std.proofs.Common.{refl}
use Rattle.tl_bridge.proofs.Words.{of-list, lives-long, sends_a, sends_c, sends_e, client_side}
use Rattle.tl_bridge.proofs.SideEnds.{client-ends-then, ends-a, ends-c, ends-e}
use Rattle.tl_bridge.proofs.client_turns.offer_each.Goals as goal

pub deref-requires : goal.deref-requires
deref-requires g c = λ κs. (lives-long κs.1.0, lives-long κs.1.1.0)

pub deref-requires-2 : goal.deref-requires-2
deref-requires-2 g c = λ κs. (lives-long κs.1.0, lives-long κs.1.1.0)

pub deref-requires-3 : goal.deref-requires-3
deref-requires-3 g c = λ κs. (lives-long κs.1.0, lives-long κs.1.1.0)

pub returns-clause-others : goal.returns-clause-others
returns-clause-others g c = (refl, refl)

pub returns-clause-offers : goal.returns-clause-offers
returns-clause-offers g c = λ x h.
    let a = (of-list (sends_a client_side) c.deref.ensures.value c.offer_next-a.ensures).does x h in
    let c' = (of-list (sends_c client_side) c.deref-2.ensures.value c.offer_next-c.ensures).does _ a.2 in
    let e = (of-list (sends_e client_side) c.deref-3.ensures.value c.offer_next-e.ensures).does _ c'.2 in
    record {
      past = _;
      stands = e.2;
      beats_a = a.0;
      beats_c = c'.0;
      beats_e = e.0;
      history = refl;
      taken = refl;
      does_a = a.3;
      does_c = c'.3;
      does_e = e.3;
    }

pub returns-clause-ends : goal.returns-clause-ends
returns-clause-ends g c = client-ends-then _ _ _
    (client-ends-then _ _ _ (ends-a _ _ c.offer_next-a.ensures.keeps) (ends-c _ _ c.offer_next-c.ensures.keeps)) (ends-e _ _ c.offer_next-e.ensures.keeps)
