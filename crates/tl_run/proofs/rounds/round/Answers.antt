use Rattle.tl_run.proofs.Names.{lit<, refl, ap, ◌∙◌, bridge_small, beat_small, near_beats, after_pump, beats_of, joined, after_take_all}
use Rattle.tl_run.proofs.AllOffers.{all-offered}
use Rattle.tl_run.proofs.AllOk.{of-ok}
use Rattle.tl_run.proofs.Round.{moved-stands, has-round, inboxes-are, counts-fit}
use Rattle.tl_run.proofs.Rooms.{has-places, lists-fit, more-room, places}
use Rattle.tl_run.proofs.rounds.round.Goals as goal

pub take_from_each-requires-room-F-FarSink : goal.take_from_each-requires-room-F-FarSink
take_from_each-requires-room-F-FarSink g c = λ κs. lit< tt

pub offer_of-a-requires-room-S-Offers : goal.offer_of-a-requires-room-S-Offers
offer_of-a-requires-room-S-Offers g c κs = bridge_small g.row.C g.row.M c.requires.0.client c.requires.0.manager

pub offer_of-a-requires-room-S-Offers-2 : goal.offer_of-a-requires-room-S-Offers-2
offer_of-a-requires-room-S-Offers-2 g c κs = beat_small g.row.C c.requires.0.client

pub offer_of-c-requires-room-S-Offers : goal.offer_of-c-requires-room-S-Offers
offer_of-c-requires-room-S-Offers g c κs = bridge_small g.row.C g.row.M c.requires.0.client c.requires.0.manager

pub offer_of-c-requires-room-S-Offers-2 : goal.offer_of-c-requires-room-S-Offers-2
offer_of-c-requires-room-S-Offers-2 g c κs = beat_small g.row.C c.requires.0.client

pub offer_of-e-requires-room-S-Offers : goal.offer_of-e-requires-room-S-Offers
offer_of-e-requires-room-S-Offers g c κs = bridge_small g.row.C g.row.M c.requires.0.client c.requires.0.manager

pub offer_of-e-requires-room-S-Offers-2 : goal.offer_of-e-requires-room-S-Offers-2
offer_of-e-requires-room-S-Offers-2 g c κs = beat_small g.row.C c.requires.0.client

pub offer_of-b-requires-room-S-Offers : goal.offer_of-b-requires-room-S-Offers
offer_of-b-requires-room-S-Offers g c κs = bridge_small g.row.C g.row.M c.requires.0.client c.requires.0.manager

pub offer_of-b-requires-room-S-Offers-2 : goal.offer_of-b-requires-room-S-Offers-2
offer_of-b-requires-room-S-Offers-2 g c κs = beat_small g.row.M c.requires.0.manager

pub offer_of-d-requires-room-S-Offers : goal.offer_of-d-requires-room-S-Offers
offer_of-d-requires-room-S-Offers g c κs = bridge_small g.row.C g.row.M c.requires.0.client c.requires.0.manager

pub offer_of-d-requires-room-S-Offers-2 : goal.offer_of-d-requires-room-S-Offers-2
offer_of-d-requires-room-S-Offers-2 g c κs = beat_small g.row.M c.requires.0.manager

pub add_accepted-requires : goal.add_accepted-requires
add_accepted-requires g c = record {
  few = counts-fit c.requires.0.client c.requires.0.manager (near_beats c.args.script.now) c.args.at.now (beats_of c.args.far.now)
      c.requires.3.past c.requires.3.is_at c.requires.1;
}

pub pump-requires : goal.pump-requires
pump-requires g c = bridge_small g.row.C g.row.M c.requires.0.client c.requires.0.manager

pub fetch-requires : goal.fetch-requires
fetch-requires g c = bridge_small g.row.C g.row.M c.requires.0.client c.requires.0.manager

pub returns-clause-round : goal.returns-clause-round
returns-clause-round g c = λ x stands at.
    let far = c.args.far.now in
    let taken = c.take_from_each.ensures in
    -- the lists have room for all that comes
    let ok = (taken.room (beats_of far) (places far) refl (has-places far)
    (lists-fit c.requires.0.client c.requires.0.manager (near_beats c.args.script.now) c.args.at.now far c.args.bridge.now c.requires.3
    c.requires.2)).0 in
    let h = all-offered (near_beats c.args.script.now) c.args.at.now _ _ _ _ _ c.offer_of-d.new.side (record {
      a = c.offer_of-a.result;
      b = c.offer_of-b.result;
      c = c.offer_of-c.result;
      d = c.offer_of-d.result;
      e = c.offer_of-e.result;
    })
    c.offer_of-a.ensures c.offer_of-c.ensures
    c.offer_of-e.ensures c.offer_of-b.ensures
    c.offer_of-d.ensures
    (after_take_all x) (of-ok c.take_from_each.result ok (taken.taken x stands)) in
    let pumped = c.pump.ensures.moved h.past h.stands in
    has-round c.requires.0.client c.requires.0.manager (near_beats c.args.script.now) c.args.at.now (beats_of far) x c.args.bridge.now
    c.offer_of-d.new.side _ stands at h
    (beats_of c.take_from_each.new.far) c.fetch.new.self
    (of-ok c.take_from_each.result ok (taken.far (beats_of far) refl) ∙
    ap (λ q. joined (beats_of far) q) (inboxes-are c.args.bridge.now x stands))
    (moved-stands c.offer_of-d.new.side c.pump.new.self c.fetch.new.self h.past h.stands pumped
    (c.fetch.ensures.moved (after_pump c.offer_of-d.new.side h.past) pumped))

pub returns-clause-counted : goal.returns-clause-counted
returns-clause-counted g c = c.add_accepted.ensures

pub returns-clause-room : goal.returns-clause-room
returns-clause-room g c =
    let far = c.args.far.now in
    more-room (near_beats c.args.script.now) far c.take_from_each.new.far c.requires.2
    (c.take_from_each.ensures.room (beats_of far) (places far) refl (has-places far)
    (lists-fit c.requires.0.client c.requires.0.manager (near_beats c.args.script.now) c.args.at.now far c.args.bridge.now c.requires.3
    c.requires.2)).1
