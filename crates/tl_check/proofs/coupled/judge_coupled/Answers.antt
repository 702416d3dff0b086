use Rattle.tl_check.proofs.Names.{◌≡◌, ◌-◌, ◌∙◌, None, sym, ap, arith, end-past, part-of, slice_get, option_map_or, stops_a, stops_d}
use Rattle.tl_parts.proofs.Parts.{end-get}
use Rattle.tl_parts.proofs.Stopping.{stuck-by}
use Rattle.tl_check.proofs.Parts.{none-held}
use Rattle.tl_check.proofs.Ends.{both-end}
use Rattle.tl_check.proofs.coupled.judge_coupled.Goals as goal

pub passes-init : goal.passes-init
passes-init g c = record {
  within_a = c.requires.2;
  within_d = c.requires.3;
  come_a = λ near part was. was;
  come_d = λ near part was. was;
  both = λ near back part_a part_d was_a was_d start. start;
}

pub passes-preserved : goal.passes-preserved
passes-preserved g c =
    let here = c.passes.invariant in
    let asked = c.offer_requests-a_stops in
    let answered = c.offer_responses-d_stops in
    record {
      within_a = asked.ensures.within;
      within_d = answered.ensures.within;
      come_a = λ near part was. asked.ensures.come near part (here.come_a near part was);
      come_d = λ near part was. answered.ensures.come near part (here.come_d near part was);
      both = λ near back part_a part_d was_a was_d start.
          answered.ensures.accepted near back asked.new.asks.at part_d (here.come_d back part_d was_d)
          (asked.ensures.accepted near back c.passes.answers.at part_a (here.come_a near part_a was_a)
          (here.both near back part_a part_d was_a was_d start));
    }

pub passes-smaller : goal.passes-smaller
passes-smaller g c = let answered = c.offer_responses-d_stops in
    omega (arith, answered.ensures.on, answered.ensures.within.to, c.if-answers-before.false)

pub returns-then-answers-before : goal.returns-then-answers-before
returns-then-answers-before g c =
    let here = c.passes.invariant in
    let asked = c.offer_requests-a_stops in
    let answered = c.offer_responses-d_stops in
    let still : c.passes.answers.at ≡ answered.new.answers.at = omega (arith, c.if-answers-before.true) in
    record {
      within_a = asked.ensures.within;
      within_d = answered.ensures.within;
      come_a = λ near part was. asked.ensures.come near part (here.come_a near part was);
      come_d = λ near part was. answered.ensures.come near part (here.come_d near part was);
      both = λ near back part_a part_d was_a was_d start.
          answered.ensures.accepted near back asked.new.asks.at part_d (here.come_d back part_d was_d)
          (asked.ensures.accepted near back c.passes.answers.at part_a (here.come_a near part_a was_a)
          (here.both near back part_a part_d was_a was_d start));
      stopped = λ near back end_a end_d was_a was_d start.
          let part_a = part-of c.args.discarded.now.a asked.new.asks.at c.args.a.now near end_a in
          let part_d = part-of c.args.discarded.now.d answered.new.answers.at c.args.d.now back end_d in
          let before = here.both near back part_a part_d was_a was_d start in
          let a_was = here.come_a near part_a was_a in
          let d_was = here.come_d back part_d was_d in
          let between = asked.ensures.accepted near back c.passes.answers.at part_a a_was before in
          both-end c.requires.0 c.requires.1 near back asked.new.asks.at c.passes.answers.at answered.new.answers.at still
          answered.new.client answered.new.manager (answered.ensures.accepted near back asked.new.asks.at part_d d_was between)
          asked.result answered.result
          (asked.ensures.stopped near back c.passes.answers.at part_a a_was before ∙
          ap (λ o. option_map_or (λ b. stops_a near back asked.new.asks.at c.passes.answers.at b) o None)
          (sym (end-get c.args.discarded.now.a asked.new.asks.at c.args.a.now near end_a asked.ensures.within.from)))
          (λ none. end-past c.args.discarded.now.a asked.new.asks.at c.args.a.now near end_a (asked.ensures.all none))
          (answered.ensures.stopped near back asked.new.asks.at part_d d_was between ∙
          ap (λ o. option_map_or (λ b. stops_d near back asked.new.asks.at answered.new.answers.at b) o None)
          (sym (end-get c.args.discarded.now.d answered.new.answers.at c.args.d.now back end_d answered.ensures.within.from)))
          (λ none. end-past c.args.discarded.now.d answered.new.answers.at c.args.d.now back end_d (answered.ensures.all none))
          asked.new.asks.tracker asked.new.asks.far (asked.ensures.come near part_a a_was)
          answered.new.answers.tracker answered.new.answers.far (answered.ensures.come back part_d d_was);
      stuck = λ near back part_a part_d was_a was_d start.
          let before = here.both near back part_a part_d was_a was_d start in
          let a_was = here.come_a near part_a was_a in
          let d_was = here.come_d back part_d was_d in
          let between = asked.ensures.accepted near back c.passes.answers.at part_a a_was before in (
            stuck-by (stops_a near back asked.new.asks.at answered.new.answers.at)
                (slice_get c.args.a.now (asked.new.asks.at - c.args.discarded.now.a)) asked.result
                (asked.ensures.stopped near back c.passes.answers.at part_a a_was before ∙
                ap (λ k. option_map_or (λ b. stops_a near back asked.new.asks.at k b)
                (slice_get c.args.a.now (asked.new.asks.at - c.args.discarded.now.a)) None) still)
                (λ none. none-held c.args.discarded.now.a asked.new.asks.at c.args.a.now (asked.ensures.all none)),
            stuck-by (stops_d near back asked.new.asks.at answered.new.answers.at)
                (slice_get c.args.d.now (answered.new.answers.at - c.args.discarded.now.d)) answered.result
                (answered.ensures.stopped near back asked.new.asks.at part_d d_was between)
                (λ none. none-held c.args.discarded.now.d answered.new.answers.at c.args.d.now (answered.ensures.all none)),
          );
    }
