use Rattle.std.proofs.Common.{refl}
use Rattle.tl_bridge.proofs.Words.{of-list, lives-long, sends_b, sends_d, manager_side}
use Rattle.tl_bridge.proofs.SideEnds.{manager-ends-then, ends-b, ends-d}
use Rattle.tl_bridge.proofs.manager_turns.offer_each.Goals as goal

pub deref-requires : goal.deref-requires
deref-requires g c = λ κs. (lives-long κs.1.0, lives-long κs.1.1.0)

pub deref-requires-2 : goal.deref-requires-2
deref-requires-2 g c = λ κs. (lives-long κs.1.0, lives-long κs.1.1.0)

pub returns-clause-others : goal.returns-clause-others
returns-clause-others g c = (refl, refl, refl)

pub returns-clause-offers : goal.returns-clause-offers
returns-clause-offers g c = λ x h.
    let b = (of-list (sends_b manager_side) c.deref.ensures.value c.offer_next-b.ensures).does x h in
    let d = (of-list (sends_d manager_side) c.deref-2.ensures.value c.offer_next-d.ensures).does _ b.2 in
    record {
      past = _;
      stands = d.2;
      beats_b = b.0;
      beats_d = d.0;
      history = refl;
      taken_c = refl;
      taken_e = refl;
      does_b = b.3;
      does_d = d.3;
    }

pub returns-clause-ends : goal.returns-clause-ends
returns-clause-ends g c = manager-ends-then _ _ _ (ends-b _ _ c.offer_next-b.ensures.keeps) (ends-d _ _ c.offer_next-d.ensures.keeps)
