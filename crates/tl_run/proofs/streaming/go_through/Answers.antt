use Rattle.tl_run.proofs.Names.{lit<, refl, sym, subst, ◌∙◌, bridge_small, AreEnd, ArePart, AllRest, IsAt, as_counts}
use Rattle.tl_run.proofs.Counting.{nearer}
use Rattle.tl_parts.proofs.Parts.{are-part}
use Rattle.tl_run.proofs.Memory.{passed-on}
use Rattle.tl_run.proofs.OnlyMemory.{not-ok}
use Rattle.tl_run.proofs.Pieces.{all-on, all-same, all-within, rests-too, room-to-count}
use Rattle.tl_run.proofs.Stuck.{all-rest, all-stuck}
use Rattle.tl_parts.specs.Stopping.{AreStuck}
use Rattle.tl_run.proofs.streaming.go_through.Goals as goal

pub turns-init : goal.turns-init
turns-init g c = record { can = c.requires.1; discarded = refl; on = λ near part was. was; memory = λ near part was has. has; same = refl }

pub total-before-requires : goal.total-before-requires
total-before-requires g c = room-to-count c.turns.run.discarded c.turns.run.at c.args.held.now c.turns.invariant.can.within

pub all_go_ahead-stopped_by-requires : goal.all_go_ahead-stopped_by-requires
all_go_ahead-stopped_by-requires g c = (
  bridge_small g.row.C g.row.M c.requires.0.client c.requires.0.manager,
  (lit< tt, (c.requires.0, c.turns.invariant.can.within)),
)

pub total-requires : goal.total-requires
total-requires g c = room-to-count _ _ c.args.held.now c.all_go_ahead-stopped_by.ensures.within

pub empty-requires : goal.empty-requires
empty-requires g c =
    let rests = c.turns.invariant.can.rests in
    let passed = c.all_go_ahead-stopped_by.ensures.passes rests.past rests.stands in
    (bridge_small g.row.C g.row.M c.requires.0.client c.requires.0.manager, (c.requires.0, (passed.past, passed.stands)))

pub turns-smaller : goal.turns-smaller
turns-smaller g c =
    let turn = c.all_go_ahead-stopped_by.ensures in
    nearer _ _ _ (all-on _ _ turn.on c.total-before.ensures c.total.ensures c.if-total-before.false) (all-within _ _ c.args.held.now turn.within)

pub turns-preserved : goal.turns-preserved
turns-preserved g c =
    let here = c.turns.invariant in
    let turn = c.all_go_ahead-stopped_by.ensures in
    record {
      can = record { within = turn.within; rests = c.in-Ok.ensures.rests };
      discarded = here.discarded;
      on = λ near part was.
          let r = here.on near part was in
          c.in-Ok.ensures.on near c.all_go_ahead-stopped_by.new.at (room-to-count _ _ c.args.held.now turn.within)
          (passed-on _ near _ c.args.held.now _ _ _ _ _ _
          (subst (λ q. ArePart q c.args.held.now near) (sym here.discarded) part) r (turn.passes r.under_way.past r.under_way.stands));
      memory = λ near part was has.
          let r = here.on near part was in
          (c.in-Ok.ensures.memory near c.all_go_ahead-stopped_by.new.at (room-to-count _ _ c.args.held.now turn.within)
          (passed-on _ near _ c.args.held.now _ _ _ _ _ _
          (subst (λ q. ArePart q c.args.held.now near) (sym here.discarded) part) r (turn.passes r.under_way.past r.under_way.stands))
          (here.memory near part was has)).1;
      same = c.in-Ok.ensures.same ∙ here.same;
    }

pub returns-then-total-before : goal.returns-then-total-before
returns-then-total-before g c =
    let here = c.turns.invariant in
    let rests = here.can.rests in
    let turn = c.all_go_ahead-stopped_by.ensures in
    let same = all-same _ _ turn.on (sym c.total.ensures ∙ c.if-total-before.true ∙ c.total-before.ensures) in
    record {
      can = record {
        within = turn.within;
        rests = record { past = rests.past; stands = turn.stays same rests.past rests.stands; rest = rests.rest };
      };
      discarded = here.discarded;
      on = λ near part was.
          let r = here.on near part was in
          passed-on _ near _ c.args.held.now _ _ _ _ _ _
          (subst (λ q. ArePart q c.args.held.now near) (sym here.discarded) part) r (turn.passes r.under_way.past r.under_way.stands);
      memory = λ near part was has. (refl, here.memory near part was has);
      stopped = λ near end was.
          let r = here.on near (are-part c.args.run.now.discarded c.args.held.now near end) was in
          let u = r.under_way in
          record {
            all = r.all;
            holds = r.holds;
            counts = r.counts;
            past = u.past;
            stands = turn.stays same u.past u.stands;
            is_at = subst (λ n. IsAt near n r.all u.past) (sym same) u.is_at;
            at_rest = rests-too c.turns.run.bridge rests.past u.past rests.stands u.stands rests.rest;
            rests = subst (λ n. AllRest near n u.past c.all_go_ahead-stopped_by.result) (sym same)
                (all-rest _ _ c.args.held.now here.can.within near u.past _ (turn.rests same u.past u.stands)
                (subst (λ q. AreEnd q c.args.held.now near) (sym here.discarded) end));
          };
      stuck = λ near part was.
          let r = here.on near part was in
          let u = r.under_way in
          subst (λ q. AreStuck near q (as_counts c.all_go_ahead-stopped_by.new.at) c.args.held.now) here.discarded
          (subst (λ n. AreStuck near c.turns.run.discarded (as_counts n) c.args.held.now) (sym same)
          (all-stuck _ _ c.args.held.now here.can.within near u.past _ (turn.rests same u.past u.stands) c.requires.0.client c.requires.0.manager
          (subst (λ q. ArePart q c.args.held.now near) (sym here.discarded) part) r.all c.turns.run.bridge u.stands u.is_at
          (rests-too c.turns.run.bridge rests.past u.past rests.stands u.stands rests.rest)));
      same = here.same;
    }

pub returns-in_default : goal.returns-in_default
returns-in_default g c =
    record {
      can = tt;
      discarded = c.turns.invariant.discarded;
      on = λ near part was. tt;
      memory = λ near part was has.
          let here = c.turns.invariant in
          let turn = c.all_go_ahead-stopped_by.ensures in
          let r = here.on near part was in
          not-ok (c.in_default.ensures.memory near c.all_go_ahead-stopped_by.new.at (room-to-count _ _ c.args.held.now turn.within)
          (passed-on _ near _ c.args.held.now _ _ _ _ _ _
          (subst (λ q. ArePart q c.args.held.now near) (sym here.discarded) part) r (turn.passes r.under_way.past r.under_way.stands))
          (here.memory near part was has)).0;
      stopped = λ near end was. tt;
      stuck = λ near part was. tt;
      same = tt;
    }
