use Rattle.tl_run.proofs.Names.{◌+◌, ◌^◌, ◌<◌, ◌≤◌, refl, sym, subst, arith, zero-le, near_beats, beats_of, HasEnded, IsUnderWay}
use Rattle.tl_run.specs.Scripts.{AreBelow}
use Rattle.tl_run.specs.InRounds.{TakesRounds}
use Rattle.tl_run.proofs.TakesRounds.{HasGone, all-stopped, gone-none, gone-on, takes-rounds, suc-is}
use Rattle.tl_run.proofs.Below.{counted-below, stopped-below}
use Rattle.tl_run.proofs.Counting.{counts-on, nearer, one-round-more}
use Rattle.tl_run.proofs.Ended.{progress_here, progress-ends, end-few, ended, further, starts}
use Rattle.tl_run.proofs.rounds.run_rounds.Given.{Over}
use Rattle.tl_run.proofs.rounds.run_rounds.Goals as goal

pub rounds-init : goal.rounds-init
rounds-init g c = record {
  under_way = starts (near_beats c.args.script.now) _ (beats_of c.args.far.now) c.args.bridge.now refl c.requires.3
      c.requires.2;
  room = c.requires.4;
  exact = λ ring some stands. gone-none (near_beats c.args.script.now) ring _ _ _ refl c.requires.3 some stands;
  each = record { a = omega arith; b = omega arith; c = omega arith; d = omega arith; e = omega arith };
  few = zero-le;
}

pub overflow_add-rounds : goal.overflow_add-rounds
overflow_add-rounds g c =
    let u = c.rounds.invariant.under_way in
    let near = near_beats c.args.script.now in
    let l : c.rounds.rounds + 1 < 2 ^ 64 = counts-on _ _ _ c.rounds.invariant.few
    (progress-ends near c.requires.0.client c.requires.0.manager c.rounds.at (beats_of c.rounds.far) c.rounds.bridge u.past u.stands u.is_at)
    (end-few near c.requires.0.client c.requires.0.manager c.requires.1) in
    omega (arith, l)

pub returns-in-Some-clause-ended : goal.returns-in-Some-clause-ended
returns-in-Some-clause-ended g c =
    let u = c.rounds.invariant.under_way in
    let h = c.round-offers.ensures.round u.past u.stands u.is_at in
    subst (λ n. HasEnded (near_beats c.args.script.now) n (beats_of c.round-offers.new.far) c.round-offers.new.bridge c.in-Some.stops
    (c.rounds.rounds + 1)) (sym c.round-offers.ensures.counted)
    (ended (near_beats c.args.script.now) c.rounds.at (beats_of c.rounds.far) (beats_of c.round-offers.new.far) c.rounds.bridge
    c.round-offers.new.bridge u.past c.round-offers.result u.stands u.is_at h
    c.rounds.rounds c.rounds.invariant.few c.in-Some.stops c.in-Some.ensures.stops (c.in-Some.ensures.rests h.past h.stands))

pub returns-in-Some-clause-exact : goal.returns-in-Some-clause-exact
returns-in-Some-clause-exact g c = λ ring some stands.
    let e = c.rounds.invariant.exact ring some stands in
    let h = c.round-offers.ensures.round _ e.stands e.is_at in
    subst (λ k. TakesRounds (near_beats c.args.script.now) ring k) (suc-is c.rounds.rounds)
    (takes-rounds (near_beats c.args.script.now) ring _ _ _ _ _ _ _ e h
    (all-stopped c.round-offers.result c.in-Some.stops c.in-Some.ensures.stops) (c.in-Some.ensures.rests h.past h.stands))

pub returns-in-Some-clause-each : goal.returns-in-Some-clause-each
returns-in-Some-clause-each g c =
    stopped-below c.rounds.at c.round-offers.new.at (c.rounds.rounds + 1) c.round-offers.result c.in-Some.stops c.round-offers.ensures.counted
    c.in-Some.ensures.stops c.rounds.invariant.each

-- a round that is not the last one
onward : (g : Over) (c : goal.In_default g) → progress_here c.rounds.at (beats_of c.rounds.far) c.rounds.bridge + 1 ≤
    progress_here c.round-offers.new.at (beats_of c.round-offers.new.far) c.round-offers.new.bridge
onward g c =
    let u = c.rounds.invariant.under_way in
    let h = c.round-offers.ensures.round u.past u.stands u.is_at in
    subst (λ n. progress_here c.rounds.at (beats_of c.rounds.far) c.rounds.bridge + 1 ≤ progress_here n (beats_of c.round-offers.new.far)
    c.round-offers.new.bridge) (sym c.round-offers.ensures.counted)
    (further (near_beats c.args.script.now) c.rounds.at (beats_of c.rounds.far) (beats_of c.round-offers.new.far) c.rounds.bridge
    c.round-offers.new.bridge u.past c.round-offers.result u.stands u.is_at h
    (λ stopped rest. c.in_default.ensures.goes h.past h.stands refl stopped rest))

-- the state of the run after it
after : (g : Over) (c : goal.In_default g) →
    IsUnderWay (near_beats c.args.script.now) c.round-offers.new.at (beats_of c.round-offers.new.far) c.round-offers.new.bridge
after g c =
    let u = c.rounds.invariant.under_way in
    let h = c.round-offers.ensures.round u.past u.stands u.is_at in
    subst (λ n. IsUnderWay (near_beats c.args.script.now) n (beats_of c.round-offers.new.far) c.round-offers.new.bridge)
    (sym c.round-offers.ensures.counted)
    (record { past = h.past; stands = h.stands; is_at = h.is_at })

pub rounds-smaller : goal.rounds-smaller
rounds-smaller g c =
    let v = after g c in
    nearer _ _ _ (onward g c)
    (progress-ends (near_beats c.args.script.now) c.requires.0.client c.requires.0.manager c.round-offers.new.at (beats_of c.round-offers.new.far)
    c.round-offers.new.bridge v.past v.stands v.is_at)

pub rounds-preserved : goal.rounds-preserved
rounds-preserved g c = record {
  under_way = after g c;
  room = c.round-offers.ensures.room;
  exact = λ ring some stands. subst (λ k. HasGone (near_beats c.args.script.now) ring k c.round-offers.new.at
      (beats_of c.round-offers.new.far) c.round-offers.new.bridge) (suc-is c.rounds.rounds)
      (let e = c.rounds.invariant.exact ring some stands in
      let h = c.round-offers.ensures.round _ e.stands e.is_at in
      gone-on (near_beats c.args.script.now) ring _ _ _ _ _ _ _ e h c.round-offers.new.at c.round-offers.ensures.counted
      (λ stopped rest. c.in_default.ensures.goes h.past h.stands refl stopped rest));
  each = subst (λ n. AreBelow n (c.rounds.rounds + 1 + 1)) (sym c.round-offers.ensures.counted)
      (counted-below c.rounds.at (c.rounds.rounds + 1) c.round-offers.result c.rounds.invariant.each);
  few = one-round-more _ _ _ c.rounds.invariant.few (onward g c);
}
