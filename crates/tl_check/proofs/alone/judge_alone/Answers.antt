use Rattle.std.specs.Prelude.{IfSome}
use Rattle.tl_check.proofs.Names.{◌≢◌, ◌∙◌, None, Some, sym, subst, fault_after}
use Rattle.tl_check.proofs.Names.{◌-◌, length, take, refl, slice_get_within, end-past, part-get, part-of}
use Rattle.tl_check.proofs.Parts.{none-held, none-left, read_some, steps}
use Rattle.tl_check.proofs.Passing.{alone-all, alone-stops, says-after}
use Rattle.tl_check.proofs.alone.judge_alone.Goals as goal

pub beats-init : goal.beats-init
beats-init g c = record { within = c.requires.2; come = λ bs part was. was }

pub beats-preserved : goal.beats-preserved
beats-preserved g c =
    let progress = c.beats.progress in
    let here = c.beats.invariant.within in
    let next = read_some c.args.beats.now (progress.at - c.args.discarded) c.in-Some.beat.now c.in-Some.ensures.lookup.0 c.in-Some.ensures.lookup.1 in
    let within = slice_get_within c.args.beats.now (progress.at - c.args.discarded) c.in-Some.beat.now next in
    record {
      within = steps c.args.discarded progress.at progress.far (length c.args.beats.now) c.accept.new.self.at c.accept.new.self.far here within
          c.accept.ensures.at c.accept.ensures.few_far;
      come = λ bs part was.
          let come = c.beats.invariant.come bs part was in
          c.accept.ensures.come bs c.in-Some.beat.now come
          (part-get c.args.discarded progress.at c.args.beats.now bs part here.from c.in-Some.beat.now next) c.in-Ok.ensures.head
          (c.in-Ok.ensures.accepts.0 refl) ((c.in-Ok.ensures.admitted (take progress.at bs) come.handed come.burst_is).0 refl);
    }

pub returns-in-Err : goal.returns-in-Err
returns-in-Err g c = record {
  within = c.beats.invariant.within;
  come = c.beats.invariant.come;
  stopped = λ bs end was.
      let progress = c.beats.progress in
      let part = part-of c.args.discarded progress.at c.args.beats.now bs end in
      let next = read_some c.args.beats.now (progress.at - c.args.discarded) c.in-Some.beat.now c.in-Some.ensures.lookup.0 c.in-Some.ensures.lookup.1 in
      alone-stops g.K.Channel.rules bs progress.tracker progress.at progress.far (c.beats.invariant.come bs part was) c.in-Some.beat.now
      (part-get c.args.discarded progress.at c.args.beats.now bs part c.beats.invariant.within.from c.in-Some.beat.now next)
      c.in-Err.fault c.in-Err.ensures.fault;
  stuck = λ bs part was.
      let progress = c.beats.progress in
      let next = read_some c.args.beats.now (progress.at - c.args.discarded) c.in-Some.beat.now c.in-Some.ensures.lookup.0 c.in-Some.ensures.lookup.1 in
      let after = says-after g.K.Channel.rules bs progress.tracker progress.at progress.far (c.beats.invariant.come bs part was) c.in-Some.beat.now
      (part-get c.args.discarded progress.at c.args.beats.now bs part c.beats.invariant.within.from c.in-Some.beat.now next)
      (Some c.in-Err.fault) c.in-Err.ensures.fault in
      subst (λ q. IfSome q (λ b. fault_after g.K.Channel.rules (take progress.at bs) b ≢ None)) (sym next)
      (λ free. cc (sym after ∙ free));
}

pub returns : goal.returns
returns g c = record {
  within = c.beats.invariant.within;
  come = c.beats.invariant.come;
  stopped = λ bs end was.
      let progress = c.beats.progress in
      let part = part-of c.args.discarded progress.at c.args.beats.now bs end in
      let past = none-left c.args.discarded progress.at c.args.beats.now c.in_default.ensures.lookup.0 c.beats.invariant.within in
      alone-all g.K.Channel.rules bs progress.tracker progress.at progress.far (c.beats.invariant.come bs part was)
      (end-past c.args.discarded progress.at c.args.beats.now bs end past);
  stuck = λ bs part was.
      let progress = c.beats.progress in
      let past = none-left c.args.discarded progress.at c.args.beats.now c.in_default.ensures.lookup.0 c.beats.invariant.within in
      subst (λ q. IfSome q (λ b. fault_after g.K.Channel.rules (take progress.at bs) b ≢ None))
      (sym (none-held c.args.discarded progress.at c.args.beats.now past)) tt;
}
