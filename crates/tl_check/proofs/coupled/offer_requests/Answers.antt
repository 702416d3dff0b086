use Rattle.tl_check.proofs.Names.{lit<, ◌≡◌, ◌-◌, None, length, take, refl, sym, ap, subst, ◌∙◌, arith}
use Rattle.tl_check.proofs.Names.{IsOk, IfOk, IsPlace, option_map_or, slice_get_past, slice_get_within}
use Rattle.tl_check.proofs.Names.{rules_a, stops_a, AreAt, part-get}
use Rattle.tl_check.proofs.Ends.{stopped-at}
use Rattle.tl_check.proofs.Parts.{none-left, read_some, steps}
use Rattle.tl_check.proofs.Passing.{says-after}
use Rattle.tl_check.proofs.Steps.{ask-accepted, ask-checked, ask-stops}
use Rattle.tl_check.proofs.coupled.offer_requests.Goals as goal

pub beats-init : goal.beats-init
beats-init g c = record { within = c.requires.2; come = λ a part was. was; accepted = λ a d j part was start. start }

pub record_requests-requires : goal.record_requests-requires
record_requests-requires g c =
    let place = subst (λ q. IfOk q (IsPlace rules_a g.row.C c.beats.asks.tracker)) c.in-Ok.ensures.place c.check.ensures.place in
    let head = subst (λ q. IfOk q (λ place. place.head ≡ c.in-Some.beat.now.head)) c.in-Ok.ensures.place c.check.ensures.head in
    (lit< tt, (c.requires.1, ap (λ h. rules_a.fault h) (sym head) ∙ place.lawful))

pub beats-preserved : goal.beats-preserved
beats-preserved g c =
    let asks = c.beats.asks in
    let beat = c.in-Some.beat.now in
    let here = c.beats.invariant.within in
    let held = read_some c.args.beats.now (asks.at - c.args.discarded) beat c.in-Some.ensures.lookup.0 c.in-Some.ensures.lookup.1 in
    let ok = subst (λ q. IsOk q) (sym c.in-Ok.ensures.place) refl in
    let fine = c.check.ensures.accepts.0 ok in
    let head = subst (λ q. IfOk q (λ place. place.head ≡ beat.head)) c.in-Ok.ensures.place c.check.ensures.head in
    record {
      within = steps c.args.discarded asks.at asks.far (length c.args.beats.now) c.accept.new.self.at c.accept.new.self.far here
          (slice_get_within c.args.beats.now (asks.at - c.args.discarded) beat held) c.accept.ensures.at c.accept.ensures.few_far;
      come = λ a part was.
          let come = c.beats.invariant.come a part was in
          c.accept.ensures.come a beat come (part-get c.args.discarded asks.at c.args.beats.now a part here.from beat held) head fine
          ((c.check.ensures.admitted (take asks.at a) come.handed come.burst_is).0 ok);
      accepted = λ a d j part was start.
          let come = c.beats.invariant.come a part was in
          let s = c.beats.invariant.accepted a d j part was start in
          let next = part-get c.args.discarded asks.at c.args.beats.now a part here.from beat held in
          let after = c.accept.ensures.come a beat come next head fine
          ((c.check.ensures.admitted (take asks.at a) come.handed come.burst_is).0 ok) in
          let checked = ask-checked c.requires.0 c.requires.1 a d asks.at j c.beats.client c.beats.manager s beat asks.tracker asks.far c.check.result
          come
          c.check.ensures.accepts c.check.ensures.fault c.check.ensures.head c.check.ensures.place in
          ask-accepted c.requires.0 c.requires.1 a d asks.at j c.beats.client c.beats.manager s beat next
          ((c.in-Ok.ensures.admits.admitted s.client_history beat s.client_knows checked).0 refl)
          (says-after rules_a a asks.tracker asks.at asks.far come beat next None fine)
          asks.tracker c.accept.new.self.tracker asks.far c.accept.new.self.at c.accept.new.self.far c.accept.result
          c.accept.ensures.at c.accept.ensures.far come after
          c.admit.new.self (c.in-Ok.ensures.admits.noted s.client_history beat s.client_knows checked) c.record_requests.new.book
          (λ bs count heads. c.record_requests.ensures s.manager_history bs s.manager_knows count heads);
    }

pub beats-smaller : goal.beats-smaller
beats-smaller g c =
    let asks = c.beats.asks in
    let held = read_some c.args.beats.now (asks.at - c.args.discarded) c.in-Some.beat.now c.in-Some.ensures.lookup.0 c.in-Some.ensures.lookup.1 in
    let within = slice_get_within c.args.beats.now (asks.at - c.args.discarded) c.in-Some.beat.now held in
    omega (arith, c.beats.invariant.within.from, within, c.accept.ensures.at)

pub returns-in-Err : goal.returns-in-Err
returns-in-Err g c = record {
  within = c.beats.invariant.within;
  come = c.beats.invariant.come;
  accepted = λ a d j part was start.
      subst (λ client. AreAt a d c.beats.asks.at j client c.beats.manager) (sym c.in-Err.ensures.admits.refused)
      (c.beats.invariant.accepted a d j part was start);
  stopped = λ a d j part was start.
      let asks = c.beats.asks in
      let beat = c.in-Some.beat.now in
      let held = read_some c.args.beats.now (asks.at - c.args.discarded) beat c.in-Some.ensures.lookup.0 c.in-Some.ensures.lookup.1 in
      let s = c.beats.invariant.accepted a d j part was start in
      let checked = ask-checked c.requires.0 c.requires.1 a d asks.at j c.beats.client c.beats.manager s beat asks.tracker asks.far c.check.result
      (c.beats.invariant.come a part was) c.check.ensures.accepts c.check.ensures.fault c.check.ensures.head c.check.ensures.place in
      stopped-at (λ b. stops_a a d asks.at j b) c.args.beats.now (asks.at - c.args.discarded) beat c.in-Err.fault held
      (ask-stops c.requires.0 c.requires.1 a d asks.at j c.beats.client c.beats.manager s beat c.in-Err.fault
      (c.in-Err.ensures.admits.fault s.client_history beat s.client_knows checked));
  all = λ none. absurd (cc (none));
}

pub returns : goal.returns
returns g c = record {
  within = c.beats.invariant.within;
  come = c.beats.invariant.come;
  accepted = c.beats.invariant.accepted;
  stopped = λ a d j part was start.
      let past = none-left c.args.discarded c.beats.asks.at c.args.beats.now c.in_default.ensures.lookup.0 c.beats.invariant.within in
      sym (ap (λ o. option_map_or (λ b. stops_a a d c.beats.asks.at j b) o None)
      (slice_get_past c.args.beats.now (c.beats.asks.at - c.args.discarded) (omega (arith, past))));
  all = λ _. none-left c.args.discarded c.beats.asks.at c.args.beats.now c.in_default.ensures.lookup.0 c.beats.invariant.within;
}
