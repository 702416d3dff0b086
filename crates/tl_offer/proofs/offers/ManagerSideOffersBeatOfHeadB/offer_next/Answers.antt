use Rattle.tl_offer.proofs.Names.{there_is, refl, arith, slice_get_past, slice_get_read, manager_small, sends_b, manager_side}
use Rattle.tl_offer.proofs.NextOffers.{waits, answers, closes}
use Rattle.tl_offer.proofs.OfferSteps.{fails}
use Rattle.tl_ring.proofs.FieldSizes.{beat_small}
use Rattle.tl_offer.proofs.offers.ManagerSideOffersBeatOfHeadB.offer_next.Goals as goal

pub close_b-requires : goal.close_b-requires
close_b-requires g c = manager_small g.row.C g.row.M c.requires.client c.requires.manager

pub returns-then-at-beats : goal.returns-then-at-beats
returns-then-at-beats g c = rw c.from_close.ensures
    (closes (sends_b manager_side) _ _ _ (slice_get_past c.args.beats.now c.args.at c.if-at-beats.true) c.close_b.result _ c.close_b.ensures)

pub returns-then-not-ready_b : goal.returns-then-not-ready_b
returns-then-not-ready_b g c =
    waits (sends_b manager_side) c.args.self.now _ (λ x h. h.b.pipe) (fails c.ready_b.result c.ready_b.ensures c.if-not-ready_b.true) _ _ _
    (there_is c.args.beats.now c.args.at c.if-at-beats.false).1

pub bounds-beats-at : goal.bounds-beats-at
bounds-beats-at g c = c.if-at-beats.false

pub offset_bounds-beats-at : goal.offset_bounds-beats-at
offset_bounds-beats-at g c = omega (arith, c.if-at-beats.false)

pub offer_b-requires : goal.offer_b-requires
offer_b-requires g c = (
  manager_small g.row.C g.row.M c.requires.client c.requires.manager,
  (beat_small g.row.M c.requires.manager, (c.requires.manager, (c.requires.client, c.ready_b.ensures.0 c.if-not-ready_b.false))),
)

pub returns : goal.returns
returns g c = rw c.from_offer.ensures (answers (sends_b manager_side) _ _ _ _
    (slice_get_read c.args.beats.now _ c.args.at c.index-beats-at.result refl c.if-at-beats.false c.index-beats-at.is) _ (λ x h. h.b.pipe)
    (c.ready_b.ensures.0 c.if-not-ready_b.false) c.offer_b.result _ c.offer_b.ensures)
