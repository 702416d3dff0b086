use Rattle.std.proofs.Common.{◌+◌, sym, refl, subst, arith}
use Rattle.tl_bridge.proofs.Words.{Takes, client_pumps, near_beats, PerChannel, Offered, counted, few-enough}
use Rattle.tl_bridge.specs.Inner.Sides.{RoundOf, client_playing}
use Rattle.tl_bridge.proofs.Resting.{client-rests}
use Rattle.tl_bridge.proofs.SideEnds.{client-pumped, client-fetched, client-goes}
use Rattle.tl_bridge.proofs.SidePlays.{still-few, turned}
use Rattle.tl_bridge.proofs.SideRound.{client-turned}
use Rattle.tl_bridge.proofs.client_turns.ClientRunPlaysRounds.turn.Goals as goal

pub pump-pumped-requires : goal.pump-pumped-requires
pump-pumped-requires g c = c.sides_fit.ensures.client

pub fetch-fetched-requires : goal.fetch-fetched-requires
fetch-fetched-requires g c = c.sides_fit.ensures.client

pub overflow_add-pumped : goal.overflow_add-pumped
overflow_add-pumped g c = omega (arith, c.pump-pumped.ensures.most, c.fetch-fetched.ensures.most)

pub new-requires : goal.new-requires
new-requires g c = record { few = c.requires.2 }

pub returns : goal.returns
returns g c =
    let x = c.args.self.now in
    let n = c.args.at.now in
    let near = near_beats c.args.script.now in
    let t = c.offer_each-offers.new.side in
    let u = c.pump-pumped.new.self in
    let v = c.fetch-fetched.new.self in
    let o = c.offer_each-offers.result in
    let offer = c.offer_each-offers.ensures in
    let pump = c.pump-pumped.ensures in
    let fetch = c.fetch-fetched.ensures in
    let on = client-goes n x.side t u v o c.pump-pumped.result c.fetch-fetched.result offer.ends offer.others
    (client-pumped t u c.pump-pumped.result pump.rest pump.a pump.c pump.e pump.total)
    (client-fetched u v c.fetch-fetched.result fetch.rest fetch.b fetch.d fetch.total) in
    let at = (client_playing {C = g.row.C} {M = g.row.M}).IsAt near in
    let here : (r : RoundOf g.row.C) (p : PerChannel Offered) → at r n x p → at r (counted n o) (record x { side = v }) o = λ r p h.
    let k = offer.offers h.past h.stands in
    client-turned near r.d r.a r.history n x.far_b.items x.far_d.items x.side t u v p o h k
    (fetch.stands (client_pumps t u k.past) (pump.stands k.past k.stands)) in
    turned client_playing near n x (record x { side = v }) o (c.pump-pumped.result + c.fetch-fetched.result) c.new.result c.new.ensures.at
    c.new.ensures.offers c.new.ensures.accepted c.new.ensures.moved
    (on.0, refl, refl) on.1
    (λ r p h. let k = here r p h in (
      record {
        a = few-enough k.a_sent.most c.requires.1.few_a;
        b = still-few offer.others.0 c.requires.2.b;
        c = few-enough k.c_sent.most c.requires.1.few_c;
        d = still-few offer.others.1 c.requires.2.d;
        e = few-enough k.e_sent.most c.requires.1.few_e;
      },
      k,
    ))
    (λ r p h empty none still. let k = here r p h in
    client-rests near n r.d r.a r.history x.far_b.items x.far_d.items x.side t u v p o c.pump-pumped.result c.fetch-fetched.result offer.ends h
    (offer.offers h.past h.stands) pump.rest pump.a pump.c pump.e pump.total
    fetch.rest fetch.b fetch.d fetch.total none still (subst (λ q. Takes v.b q) (sym k.b_taken) k.stands.b)
    (subst (λ q. Takes v.d q) (sym k.d_taken) k.stands.d) empty.0 empty.1)
