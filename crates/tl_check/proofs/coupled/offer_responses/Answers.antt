use Rattle.tl_check.proofs.Names.{lit<, ◌≡◌, ◌-◌, None, length, take, refl, sym, ap, subst, ◌∙◌, arith}
use Rattle.tl_check.proofs.Names.{IsOk, IfOk, IsPlace, option_map_or, slice_get_past, slice_get_within}
use Rattle.tl_check.proofs.Names.{rules_d, stops_d, AreAt, part-get}
use Rattle.tl_check.proofs.Ends.{stopped-at}
use Rattle.tl_check.proofs.Parts.{none-left, read_some, steps}
use Rattle.tl_check.proofs.Passing.{says-after}
use Rattle.tl_check.proofs.Steps.{answer-accepted, answer-checked, answer-stops}
use Rattle.tl_check.proofs.coupled.offer_responses.Goals as goal

pub beats-init : goal.beats-init
beats-init g c = record { within = c.requires.2; on = omega arith; come = λ d part was. was; accepted = λ a d i part was start. start }

pub record_responses-requires : goal.record_responses-requires
record_responses-requires g c =
    let place = subst (λ q. IfOk q (IsPlace rules_d g.row.M c.beats.answers.tracker)) c.in-Ok.ensures.place c.check.ensures.place in
    let head = subst (λ q. IfOk q (λ place. place.head ≡ c.in-Some.beat.now.head)) c.in-Ok.ensures.place c.check.ensures.head in
    (lit< tt, (c.requires.0, ap (λ h. rules_d.fault h) (sym head) ∙ place.lawful))

pub beats-preserved : goal.beats-preserved
beats-preserved g c =
    let answers = c.beats.answers in
    let beat = c.in-Some.beat.now in
    let here = c.beats.invariant.within in
    let held = read_some c.args.beats.now (answers.at - c.args.discarded) beat c.in-Some.ensures.lookup.0 c.in-Some.ensures.lookup.1 in
    let ok = subst (λ q. IsOk q) (sym c.in-Ok.ensures.place) refl in
    let fine = c.check.ensures.accepts.0 ok in
    let head = subst (λ q. IfOk q (λ place. place.head ≡ beat.head)) c.in-Ok.ensures.place c.check.ensures.head in
    record {
      within = steps c.args.discarded answers.at answers.far (length c.args.beats.now) c.accept.new.self.at c.accept.new.self.far here
          (slice_get_within c.args.beats.now (answers.at - c.args.discarded) beat held) c.accept.ensures.at c.accept.ensures.few_far;
      on = omega (arith, c.beats.invariant.on, c.accept.ensures.at);
      come = λ d part was.
          let come = c.beats.invariant.come d part was in
          c.accept.ensures.come d beat come (part-get c.args.discarded answers.at c.args.beats.now d part here.from beat held) head fine
          ((c.check.ensures.admitted (take answers.at d) come.handed come.burst_is).0 ok);
      accepted = λ a d i part was start.
          let come = c.beats.invariant.come d part was in
          let s = c.beats.invariant.accepted a d i part was start in
          let next = part-get c.args.discarded answers.at c.args.beats.now d part here.from beat held in
          let after = c.accept.ensures.come d beat come next head fine
          ((c.check.ensures.admitted (take answers.at d) come.handed come.burst_is).0 ok) in
          let checked = answer-checked c.requires.0 c.requires.1 a d i answers.at c.beats.client c.beats.manager s beat answers.tracker answers.far
          c.check.result come
          c.check.ensures.accepts c.check.ensures.fault c.check.ensures.head c.check.ensures.place in
          answer-accepted c.requires.0 c.requires.1 a d i answers.at c.beats.client c.beats.manager s beat next
          ((c.in-Ok.ensures.admits.admitted s.manager_history beat s.manager_knows checked).0 refl)
          (says-after rules_d d answers.tracker answers.at answers.far come beat next None fine)
          answers.tracker c.accept.new.self.tracker answers.far c.accept.new.self.at c.accept.new.self.far c.accept.result
          c.accept.ensures.at c.accept.ensures.far come after
          c.admit.new.self (c.in-Ok.ensures.admits.noted s.manager_history beat s.manager_knows checked) c.record_responses.new.book
          (λ bs count heads. c.record_responses.ensures s.client_history bs s.client_knows count heads);
    }

pub beats-smaller : goal.beats-smaller
beats-smaller g c =
    let answers = c.beats.answers in
    let held = read_some c.args.beats.now (answers.at - c.args.discarded) c.in-Some.beat.now c.in-Some.ensures.lookup.0 c.in-Some.ensures.lookup.1 in
    let within = slice_get_within c.args.beats.now (answers.at - c.args.discarded) c.in-Some.beat.now held in
    omega (arith, c.beats.invariant.within.from, within, c.accept.ensures.at)

pub returns-in-Err : goal.returns-in-Err
returns-in-Err g c = record {
  within = c.beats.invariant.within;
  on = c.beats.invariant.on;
  come = c.beats.invariant.come;
  accepted = λ a d i part was start.
      subst (λ manager. AreAt a d i c.beats.answers.at c.beats.client manager) (sym c.in-Err.ensures.admits.refused)
      (c.beats.invariant.accepted a d i part was start);
  stopped = λ a d i part was start.
      let answers = c.beats.answers in
      let beat = c.in-Some.beat.now in
      let held = read_some c.args.beats.now (answers.at - c.args.discarded) beat c.in-Some.ensures.lookup.0 c.in-Some.ensures.lookup.1 in
      let s = c.beats.invariant.accepted a d i part was start in
      let checked = answer-checked c.requires.0 c.requires.1 a d i answers.at c.beats.client c.beats.manager s beat answers.tracker answers.far
      c.check.result
      (c.beats.invariant.come d part was) c.check.ensures.accepts c.check.ensures.fault c.check.ensures.head c.check.ensures.place in
      stopped-at (λ b. stops_d a d i answers.at b) c.args.beats.now (answers.at - c.args.discarded) beat c.in-Err.fault held
      (answer-stops c.requires.0 c.requires.1 a d i answers.at c.beats.client c.beats.manager s beat c.in-Err.fault
      (c.in-Err.ensures.admits.fault s.manager_history beat s.manager_knows checked));
  all = λ none. absurd (cc (none));
}

pub returns : goal.returns
returns g c = record {
  within = c.beats.invariant.within;
  on = c.beats.invariant.on;
  come = c.beats.invariant.come;
  accepted = c.beats.invariant.accepted;
  stopped = λ a d i part was start.
      let past = none-left c.args.discarded c.beats.answers.at c.args.beats.now c.in_default.ensures.lookup.0 c.beats.invariant.within in
      sym (ap (λ o. option_map_or (λ b. stops_d a d i c.beats.answers.at b) o None)
      (slice_get_past c.args.beats.now (c.beats.answers.at - c.args.discarded) (omega (arith, past))));
  all = λ _. none-left c.args.discarded c.beats.answers.at c.args.beats.now c.in_default.ensures.lookup.0 c.beats.invariant.within;
}
