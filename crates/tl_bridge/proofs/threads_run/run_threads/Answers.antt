use Rattle.std.proofs.Common.{◌+◌, ◌≤◌, refl, sym, subst, ⊎_elim, inl, inr}
use Rattle.tl_bridge.proofs.Words.{near_beats, beats_of, HasEnded, not-ok}
use Rattle.tl_bridge.proofs.Words.{only-memory, stalled-never}
use Rattle.tl_bridge.specs.Inner.Sides.{bridge_of}
use Rattle.tl_bridge.proofs.threads_run.run_threads.Goals as goal

pub returns-then-ring-eq0 : goal.returns-then-ring-eq0
returns-then-ring-eq0 g c = record {
  outcome = tt;
  client_rounds = λ n passed. tt;
  manager_rounds = λ n passed. tt;
  some_round = tt;
  size = λ ok. not-ok ok;
  ring_size = (λ same. ⊎_elim (λ z. inl z) (λ p. inr p.1) c.then-ring-eq0.either, λ either. refl);
  never_stalled = stalled-never _ refl;
}

pub returns : goal.returns
returns g c =
    let near = near_beats c.args.script.now in
    let end = c.play_rounds-end.result in
    let bridge = bridge_of c.play_rounds-end.new.client.side c.play_rounds-end.new.manager.side in
    record {
      outcome = c.outcome_at.ensures.outcome near bridge
          (subst (λ (t : _). HasEnded near end.at (beats_of t) bridge end.stops end.rounds) (sym c.lists_of.ensures) c.play_rounds-end.ensures.ended);
      client_rounds = λ n passed. subst (λ k. g.G.Gate.HasPassed (n + k) c.play_rounds-end.new.client_gate) (sym c.outcome_at.ensures.rounds)
          (c.play_rounds-end.ensures.client_passed n passed);
      manager_rounds = λ n passed. subst (λ k. g.H.Gate.HasPassed (n + k) c.play_rounds-end.new.manager_gate) (sym c.outcome_at.ensures.rounds)
          (c.play_rounds-end.ensures.manager_passed n passed);
      some_round = subst (λ k. 1 ≤ k) (sym c.outcome_at.ensures.rounds) c.play_rounds-end.ensures.some_round;
      size = λ _. c.in-Ok-bridge.ensures.size refl;
      ring_size = tt;
      never_stalled = tt;
    }

-- no memory for the lists
pub returns-in_default : goal.returns-in_default
returns-in_default g c =
    let only = only-memory _ refl c.args.ring c.if-ring-eq0.false c.if-ring-gt-MAX_RING.false in
    record { outcome = tt; client_rounds = λ n passed. tt; manager_rounds = λ n passed. tt; some_round = tt; size = λ ok. not-ok ok; ring_size = only.0; never_stalled = only.1 }

-- or for the bridge
pub returns-in_default-bridge : goal.returns-in_default-bridge
returns-in_default-bridge g c =
    let only = only-memory _ refl c.args.ring c.if-ring-eq0.false c.if-ring-gt-MAX_RING.false in
    record { outcome = tt; client_rounds = λ n passed. tt; manager_rounds = λ n passed. tt; some_round = tt; size = λ ok. not-ok ok; ring_size = only.0; never_stalled = only.1 }
