use Rattle.std.proofs.Common.{◌+◌, sym, refl, subst, arith}
use Rattle.tl_bridge.proofs.Words.{Takes, manager_pumps, near_beats, PerChannel, Offered, counted, few-enough}
use Rattle.tl_bridge.specs.Inner.Sides.{RoundOf, manager_playing}
use Rattle.tl_bridge.proofs.Resting.{manager-rests}
use Rattle.tl_bridge.proofs.SideEnds.{manager-pumped, manager-fetched, manager-goes}
use Rattle.tl_bridge.proofs.SidePlays.{still-few, turned}
use Rattle.tl_bridge.proofs.SideRound.{manager-turned}
use Rattle.tl_bridge.proofs.manager_turns.ManagerRunPlaysRounds.turn.Goals as goal

pub pump-pumped-requires : goal.pump-pumped-requires
pump-pumped-requires g c = c.sides_fit.ensures.manager

pub fetch-fetched-requires : goal.fetch-fetched-requires
fetch-fetched-requires g c = c.sides_fit.ensures.manager

pub overflow_add-pumped : goal.overflow_add-pumped
overflow_add-pumped g c = omega (arith, c.pump-pumped.ensures.most, c.fetch-fetched.ensures.most)

pub new-requires : goal.new-requires
new-requires g c = record { few = c.requires.2 }

pub returns : goal.returns
returns g c =
    let y = c.args.self.now in
    let n = c.args.at.now in
    let near = near_beats c.args.script.now in
    let t = c.offer_each-offers.new.side in
    let u = c.pump-pumped.new.self in
    let v = c.fetch-fetched.new.self in
    let o = c.offer_each-offers.result in
    let offer = c.offer_each-offers.ensures in
    let pump = c.pump-pumped.ensures in
    let fetch = c.fetch-fetched.ensures in
    let on = manager-goes n y.side t u v o c.pump-pumped.result c.fetch-fetched.result offer.ends offer.others
    (manager-pumped t u c.pump-pumped.result pump.rest pump.b pump.d pump.total)
    (manager-fetched u v c.fetch-fetched.result fetch.rest fetch.a fetch.c fetch.e fetch.total) in
    let at = (manager_playing {C = g.row.C} {M = g.row.M}).IsAt near in
    let here : (r : RoundOf g.row.M) (p : PerChannel Offered) → at r n y p → at r (counted n o) (record y { side = v }) o = λ r p h.
    let k = offer.offers h.past h.stands in
    manager-turned near r.a r.d r.history n y.far_a.items y.far_c.items y.far_e.items y.side t u v p o h k
    (fetch.stands (manager_pumps t u k.past) (pump.stands k.past k.stands)) in
    turned manager_playing near n y (record y { side = v }) o (c.pump-pumped.result + c.fetch-fetched.result) c.new.result c.new.ensures.at
    c.new.ensures.offers c.new.ensures.accepted c.new.ensures.moved
    (on.0, refl, refl, refl) on.1
    (λ r p h. let k = here r p h in (
      record {
        a = still-few offer.others.0 c.requires.2.a;
        b = few-enough k.b_sent.most c.requires.1.few_b;
        c = still-few offer.others.1 c.requires.2.c;
        d = few-enough k.d_sent.most c.requires.1.few_d;
        e = still-few offer.others.2 c.requires.2.e;
      },
      k,
    ))
    (λ r p h empty none still. let k = here r p h in
    manager-rests near n r.a r.d r.history y.far_a.items y.far_c.items y.far_e.items y.side t u v p o c.pump-pumped.result c.fetch-fetched.result
    offer.ends h (offer.offers h.past h.stands) pump.rest pump.b pump.d pump.total
    fetch.rest fetch.a fetch.c fetch.e fetch.total none still (subst (λ q. Takes v.a q) (sym k.a_taken) k.stands.a)
    (subst (λ q. Takes v.c q) (sym k.c_taken) k.stands.c) (subst (λ q. Takes v.e q) (sym k.e_taken) k.stands.e)
    empty.0 empty.1 empty.2)
