use Rattle.std.proofs.Common.{◌≡◌, arith, subst}
use Rattle.tl_times.proofs.Lines.{SoFar, before_all, refused, advance, all_good, too_many}
use Rattle.tl_times.proofs.times.check_times.Goals as goal

pub loop-beat-init : goal.loop-beat-init
loop-beat-init c = before_all c.args.text.now c.args.beats

pub time_at-requires : goal.time_at-requires
time_at-requires c = c.loop-beat.invariant.within

pub returns-in-Err : goal.returns-in-Err
returns-in-Err c = record {
  good = tt;
  fault = refused c.args.text.now c.args.beats c.loop-beat.beat c.loop-beat.at c.loop-beat.last c.loop-beat.invariant c.in-Err.kind c.loop-beat-test.true
      c.in-Err.ensures;
}

pub loop-beat-preserved : goal.loop-beat-preserved
loop-beat-preserved c =
    advance c.args.text.now c.args.beats c.loop-beat.beat c.loop-beat.at c.loop-beat.last c.loop-beat.invariant c.in-Ok.next c.loop-beat-test.true
    c.in-Ok.ensures

pub returns : goal.returns
returns c =
    let text = c.args.text.now in
    let all : c.loop-beat.beat ≡ c.args.beats = omega (arith, c.loop-beat.auto.beat-end, c.loop-beat-test.false) in
    record {
      good = all_good text c.args.beats c.loop-beat.at c.loop-beat.last
          (subst (λ beat. SoFar text c.args.beats beat c.loop-beat.at c.loop-beat.last) all c.loop-beat.invariant) c.if-at-text.false;
      fault = tt;
    }

pub returns-then-at-text-clause-fault : goal.returns-then-at-text-clause-fault
returns-then-at-text-clause-fault c =
    let text = c.args.text.now in
    let all : c.loop-beat.beat ≡ c.args.beats = omega (arith, c.loop-beat.auto.beat-end, c.loop-beat-test.false) in
    too_many text c.args.beats c.loop-beat.at c.loop-beat.last
    (subst (λ beat. SoFar text c.args.beats beat c.loop-beat.at c.loop-beat.last) all c.loop-beat.invariant) c.if-at-text.true
