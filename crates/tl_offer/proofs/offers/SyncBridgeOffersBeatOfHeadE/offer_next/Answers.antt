use Rattle.tl_offer.proofs.Names.{there_is, refl, arith, slice_get_past, slice_get_read, bridge_small, sends_e, bridge_client}
use Rattle.tl_offer.proofs.NextOffers.{waits, answers, closes}
use Rattle.tl_offer.proofs.OfferSteps.{fails}
use Rattle.tl_ring.proofs.FieldSizes.{beat_small}
use Rattle.tl_offer.proofs.offers.SyncBridgeOffersBeatOfHeadE.offer_next.Goals as goal

pub close_e-requires : goal.close_e-requires
close_e-requires g c = bridge_small g.row.C g.row.M c.requires.client c.requires.manager

pub returns-then-at-beats : goal.returns-then-at-beats
returns-then-at-beats g c = rw c.from_close.ensures
    (closes (sends_e bridge_client) _ _ _ (slice_get_past c.args.beats.now c.args.at c.if-at-beats.true) c.close_e.result _ c.close_e.ensures)

pub returns-then-not-ready_e : goal.returns-then-not-ready_e
returns-then-not-ready_e g c =
    waits (sends_e bridge_client) c.args.self.now _ (λ x h. h.e) (fails c.ready_e.result c.ready_e.ensures c.if-not-ready_e.true) _ _ _
    (there_is c.args.beats.now c.args.at c.if-at-beats.false).1

pub bounds-beats-at : goal.bounds-beats-at
bounds-beats-at g c = c.if-at-beats.false

pub offset_bounds-beats-at : goal.offset_bounds-beats-at
offset_bounds-beats-at g c = omega (arith, c.if-at-beats.false)

pub offer_e-requires : goal.offer_e-requires
offer_e-requires g c = (
  bridge_small g.row.C g.row.M c.requires.client c.requires.manager,
  (beat_small g.row.C c.requires.client, (c.requires.client, (c.requires.manager, c.ready_e.ensures.0 c.if-not-ready_e.false))),
)

pub returns : goal.returns
returns g c = rw c.from_offer.ensures (answers (sends_e bridge_client) _ _ _ _
    (slice_get_read c.args.beats.now _ c.args.at c.index-beats-at.result refl c.if-at-beats.false c.index-beats-at.is) _ (λ x h. h.e)
    (c.ready_e.ensures.0 c.if-not-ready_e.false) c.offer_e.result _ c.offer_e.ensures)
