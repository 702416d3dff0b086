use Rattle.tl_offer.proofs.Names.{there_is, refl, arith, slice_get_past, slice_get_read, bridge_small, sends_a, bridge_client}
use Rattle.tl_offer.proofs.NextOffers.{waits, answers, closes}
use Rattle.tl_offer.proofs.OfferSteps.{fails}
use Rattle.tl_ring.proofs.FieldSizes.{beat_small}
use Rattle.tl_offer.proofs.offers.SyncBridgeOffersBeatOfHeadA.offer_next.Goals as goal

pub close_a-requires : goal.close_a-requires
close_a-requires g c = bridge_small g.row.C g.row.M c.requires.client c.requires.manager

pub returns-then-at-beats : goal.returns-then-at-beats
returns-then-at-beats g c = rw c.from_close.ensures
    (closes (sends_a bridge_client) _ _ _ (slice_get_past c.args.beats.now c.args.at c.if-at-beats.true) c.close_a.result _ c.close_a.ensures)

pub returns-then-not-ready_a : goal.returns-then-not-ready_a
returns-then-not-ready_a g c =
    waits (sends_a bridge_client) c.args.self.now _ (λ x h. h.a) (fails c.ready_a.result c.ready_a.ensures c.if-not-ready_a.true) _ _ _
    (there_is c.args.beats.now c.args.at c.if-at-beats.false).1

pub bounds-beats-at : goal.bounds-beats-at
bounds-beats-at g c = c.if-at-beats.false

pub offset_bounds-beats-at : goal.offset_bounds-beats-at
offset_bounds-beats-at g c = omega (arith, c.if-at-beats.false)

pub offer_a-requires : goal.offer_a-requires
offer_a-requires g c = (
  bridge_small g.row.C g.row.M c.requires.client c.requires.manager,
  (beat_small g.row.C c.requires.client, (c.requires.client, (c.requires.manager, c.ready_a.ensures.0 c.if-not-ready_a.false))),
)

pub returns : goal.returns
returns g c = rw c.from_offer.ensures (answers (sends_a bridge_client) _ _ _ _
    (slice_get_read c.args.beats.now _ c.args.at c.index-beats-at.result refl c.if-at-beats.false c.index-beats-at.is) _ (λ x h. h.a)
    (c.ready_a.ensures.0 c.if-not-ready_a.false) c.offer_a.result _ c.offer_a.ensures)
