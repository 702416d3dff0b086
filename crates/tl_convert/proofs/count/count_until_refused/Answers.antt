use Rattle.tl_convert.proofs.Names.{◌≡◌, ◌+◌, ◌++◌, None, Some, [], ◌∷◌, length, take, refl, sym, ap, ◌∙◌, arith, burst_after, fault_in, due}
use Rattle.tl_convert.proofs.CountLoop.{one-more, accepted-next, accepted-stop, accepted-all, due-count}
use Rattle.tl_convert.proofs.count.count_until_refused.Goals as goal

pub loop-beat-preserved : goal.loop-beat-preserved
loop-beat-preserved g c =
    let more : take (c.loop-beat.beat-index + 1) c.args.beats.now ≡ take c.loop-beat.beat-index c.args.beats.now ++ c.beat-item.result ∷ [] =
    one-more g.K.Channel.rules c.args.beats.now c.loop-beat.beat-index c.loop-beat.invariant.accepted c.beat-item.result (omega arith)
    c.beat-item.is in
    let none : fault_in g.K.Channel.rules c.loop-beat.tracker c.beat-item.result ≡ None = c.in-Ok.ensures.accepts.0 refl in
    record {
      open_now = c.advance.ensures.stands (take c.loop-beat.beat-index c.args.beats.now) c.beat-item.result c.loop-beat.invariant.open_now
          (sym c.in-Ok.ensures.head) ∙
          ap (λ q. burst_after g.K.Channel.rules q) (sym more);
      accepted = accepted-next g.K.Channel.rules c.args.beats.now c.loop-beat.beat-index c.loop-beat.invariant.accepted c.beat-item.result
          (omega arith) c.beat-item.is
          (ap (λ burst. fault_in g.K.Channel.rules burst c.beat-item.result) (sym c.loop-beat.invariant.open_now) ∙ none);
      count = λ homes.
          ap (λ n. n + c.far_beats_between-count.result) (c.loop-beat.invariant.count homes) ∙
          sym (due-count g.K.Channel.rules g.row.W c.args.far c.requires.1 c.requires.2 homes (take c.loop-beat.beat-index c.args.beats.now)
          c.beat-item.result
          c.loop-beat.tracker c.in-Ok.place c.far_beats_between-count.result c.loop-beat.invariant.open_now c.in-Ok.ensures.head c.in-Ok.ensures.place
          (c.in-Ok.ensures.index (take c.loop-beat.beat-index c.args.beats.now) c.loop-beat.invariant.open_now)
          c.far_beats_between-count.ensures.gives) ∙
          ap (λ q. length (due g.K.Channel.rules g.row.W c.args.far q homes)) (sym more);
      few = omega (arith, c.loop-beat.invariant.few, c.far_beats_between-count.ensures.few);
    }

pub returns-in_default : goal.returns-in_default
returns-in_default g c = λ homes.
    let some : fault_in g.K.Channel.rules c.loop-beat.tracker c.beat-item.result ≡ Some c.in_default.field-0 = c.in_default.ensures.fault in
    c.loop-beat.invariant.count homes ∙
    ap (λ q. length (due g.K.Channel.rules g.row.W c.args.far q homes))
    (sym (accepted-stop g.K.Channel.rules c.args.beats.now c.loop-beat.beat-index c.loop-beat.invariant.accepted c.beat-item.result (omega arith)
    c.beat-item.is
    c.in_default.field-0 (ap (λ burst. fault_in g.K.Channel.rules burst c.beat-item.result) (sym c.loop-beat.invariant.open_now) ∙ some)))

pub returns : goal.returns
returns g c = λ homes.
    c.loop-beat.invariant.count homes ∙
    ap (λ q. length (due g.K.Channel.rules g.row.W c.args.far q homes))
    (sym (accepted-all g.K.Channel.rules c.args.beats.now c.loop-beat.beat-index c.loop-beat.invariant.accepted
    (omega (arith, c.loop-beat-test.false))))

pub far_beats_between-count-requires-clause-small : goal.far_beats_between-count-requires-clause-small
far_beats_between-count-requires-clause-small g c = g.met.K.Channel.small c.in-Ok.place.head c.in-Ok.ensures.place.lawful

pub overflow_add-count : goal.overflow_add-count
overflow_add-count g c = omega (arith, c.loop-beat.invariant.few, c.far_beats_between-count.ensures.few, c.requires.3, c.loop-beat-test.true)

pub loop-beat-smaller : goal.loop-beat-smaller
loop-beat-smaller g c = omega (arith, c.loop-beat-test.true)

pub loop-beat-init : goal.loop-beat-init
loop-beat-init g c = record {
  open_now = c.requires.0;
  accepted = refl;
  count = λ homes. refl;
  few = omega arith;
}
