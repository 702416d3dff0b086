use Rattle.tl_run.proofs.Names.{◌≡◌, false, IsTrue, refl, sym, ap, subst, ◌∙◌, arith, bridge_small}
use Rattle.tl_run.proofs.Names.{after_fetch, joined, CanAdd, added, arriving, inboxes, lengths}
use Rattle.tl_run.proofs.Ended.{all-standing-is, can-add}
use Rattle.tl_run.proofs.Round.{inboxes-are, joined-lengths}
use Rattle.tl_run.proofs.Memory.{fetched-fits}
use Rattle.tl_run.proofs.OnlyMemory.{not-ok}
use Rattle.tl_run.proofs.Pieces.{all-nearer, fetched-at, some-way, taken-at}
use Rattle.tl_run.proofs.streaming.empty.Goals as goal

pub standings-requires : goal.standings-requires
standings-requires g c = bridge_small g.row.C g.row.M c.requires.0.client c.requires.0.manager

pub fetch-requires : goal.fetch-requires
fetch-requires g c = bridge_small g.row.C g.row.M c.requires.0.client c.requires.0.manager

pub pump-requires : goal.pump-requires
pump-requires g c = bridge_small g.row.C g.row.M c.requires.0.client c.requires.0.manager

pub moves-init : goal.moves-init
moves-init g c = record { sound = c.requires.1; on = λ near n few r. r; memory = λ near n few r has. has; same = refl }

untrue : IsTrue false → ⊥
untrue e = cc

pub moves-smaller : goal.moves-smaller
moves-smaller g c =
    let sound = c.moves.invariant.sound in
    let stood = c.standings.ensures in
    let some = some-way c.moves.bridge c.standings.result stood.a stood.b stood.c stood.d stood.e
    (λ none. untrue (c.moves-test.ensures.1 none)) in
    let fetched = c.fetch.ensures.moved sound.0 sound.1 in
    let taken = c.in-Ok.ensures.taken _ fetched in
    let less = all-nearer c.moves.bridge c.fetch.new.self c.take_from_each.new.bridge c.pump.new.self sound.0 sound.1 fetched taken
    (c.pump.ensures.moved _ taken) some in
    omega (arith, less)

pub moves-preserved : goal.moves-preserved
moves-preserved g c =
    let here = c.moves.invariant in
    record {
      sound = (_, c.pump.ensures.moved _ (c.in-Ok.ensures.taken _ (c.fetch.ensures.moved here.sound.0 here.sound.1)));
      on = λ near n few was.
          let r = here.on near n few was in
          let u = r.under_way in
          let fetched = c.fetch.ensures.moved u.past u.stands in
          let x = after_fetch c.moves.bridge u.past in
          let inboxes_are = inboxes-are c.fetch.new.self x fetched in
          let at = fetched-at near n r.all c.moves.bridge u.past u.is_at in
          let counts = subst (λ q. CanAdd c.moves.taken q → c.add_counts.new.counts ≡ added c.moves.taken q)
          c.in-Ok.ensures.counted c.add_counts.ensures in
          let can = subst (λ q. CanAdd q (lengths (inboxes c.fetch.new.self))) (sym r.counts)
          (can-add near c.requires.0.client c.requires.0.manager n r.all c.fetch.new.self x fetched at few) in
          record {
            all = joined r.all (arriving x);
            holds = subst (λ q. g.F.FarSink.Holds c.take_from_each.new.far (joined r.all q)) inboxes_are (c.in-Ok.ensures.far r.all r.holds);
            counts = counts can ∙ ap (λ q. added q (lengths (inboxes c.fetch.new.self))) r.counts ∙
                ap (λ q. added (lengths r.all) (lengths q)) inboxes_are ∙
                joined-lengths r.all (arriving x);
            under_way = record {
              past = _;
              stands = c.pump.ensures.moved _ (c.in-Ok.ensures.taken _ fetched);
              is_at = taken-at near n r.all c.requires.0.client c.requires.0.manager c.fetch.new.self c.take_from_each.new.bridge x fetched at;
            };
          };
      memory = λ near n few was has.
          let r = here.on near n few was in
          let enough = here.memory near n few was has in
          let fits = fetched-fits c.requires.0.client c.requires.0.manager g.F.FarSink.Holds near n _ _ c.moves.bridge c.fetch.new.self r
          (c.fetch.ensures.moved r.under_way.past r.under_way.stands) enough.0 enough.1 in
          (enough.0, enough.1, (c.in-Ok.ensures.room r.all enough.0 r.holds enough.2 fits).1);
      same = c.in-Ok.ensures.same ∙ here.same;
    }

pub returns-in_default : goal.returns-in_default
returns-in_default g c =
    record {
      rests = tt;
      on = λ near n few run. tt;
      memory = λ near n few was has.
          let r = c.moves.invariant.on near n few was in
          let enough = c.moves.invariant.memory near n few was has in
          let fits = fetched-fits c.requires.0.client c.requires.0.manager g.F.FarSink.Holds near n _ _ c.moves.bridge c.fetch.new.self r
          (c.fetch.ensures.moved r.under_way.past r.under_way.stands) enough.0 enough.1 in
          not-ok (c.in_default.ensures.room r.all enough.0 r.holds enough.2 fits).0;
      same = tt;
    }

pub returns : goal.returns
returns g c =
    let here = c.moves.invariant in
    let stood = c.standings.ensures in
    record {
      rests = record {
        past = here.sound.0;
        stands = here.sound.1;
        rest = sym
            (all-standing-is c.moves.bridge here.sound.0 c.standings.result here.sound.1 stood.a stood.b stood.c stood.d stood.e)
            ∙ c.moves-test.ensures.0 refl;
      };
      on = here.on;
      memory = λ near n few was has. (refl, here.memory near n few was has);
      same = here.same;
    }
