use Rattle.tl_run.proofs.Names.{ap, sym, subst, beat_small, bridge_small, Fit, inboxes, joined, lengths}
use Rattle.tl_run.proofs.OnlyMemory.{not-ok}
use Rattle.tl_run.proofs.Rooms.{same-beats}
use Rattle.tl_run.proofs.taken.take_from_each.Goals as goal

pub inbox_a-a-requires : goal.inbox_a-a-requires
inbox_a-a-requires g c = (bridge_small g.row.C g.row.M c.requires.client c.requires.manager, beat_small g.row.M c.requires.manager)

pub inbox_b-b-requires : goal.inbox_b-b-requires
inbox_b-b-requires g c = (bridge_small g.row.C g.row.M c.requires.client c.requires.manager, beat_small g.row.C c.requires.client)

pub inbox_c-c-requires : goal.inbox_c-c-requires
inbox_c-c-requires g c = (bridge_small g.row.C g.row.M c.requires.client c.requires.manager, beat_small g.row.M c.requires.manager)

pub inbox_d-d-requires : goal.inbox_d-d-requires
inbox_d-d-requires g c = (bridge_small g.row.C g.row.M c.requires.client c.requires.manager, beat_small g.row.C c.requires.client)

pub inbox_e-e-requires : goal.inbox_e-e-requires
inbox_e-e-requires g c = (bridge_small g.row.C g.row.M c.requires.client c.requires.manager, beat_small g.row.M c.requires.manager)

pub returns-in_default : goal.returns-in_default
returns-in_default g c =
    let same = same-beats _ (inboxes c.args.bridge.now) c.inbox_a-a.ensures c.inbox_b-b.ensures c.inbox_c-c.ensures c.inbox_d-d.ensures
    c.inbox_e-e.ensures in
    record {
      taken = λ x stands. tt;
      far = λ all h. tt;
      room = λ all room h has fit.
          let ok = (c.in_default.ensures.room all room h has (subst (λ q. Fit (joined all q) room) (sym same) fit)).0 in
          not-ok ok;
      same = tt;
      counted = tt;
    }

pub returns : goal.returns
returns g c =
    let same = same-beats _ (inboxes c.args.bridge.now) c.inbox_a-a.ensures c.inbox_b-b.ensures c.inbox_c-c.ensures c.inbox_d-d.ensures
    c.inbox_e-e.ensures in
    record {
      taken = c.take_all.ensures;
      far = λ all h. subst (λ q. g.F.FarSink.Holds c.take.new.self (joined all q)) same (c.in-Ok.ensures.far all h);
      room = λ all room h has fit. c.in-Ok.ensures.room all room h has (subst (λ q. Fit (joined all q) room) (sym same) fit);
      same = c.in-Ok.ensures.same;
      counted = ap (λ q. lengths q) same;
    }
