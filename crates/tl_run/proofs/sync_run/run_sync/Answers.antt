use Rattle.tl_run.proofs.Names.{near_beats, refl, sym, subst, ⊎_elim, inl, inr}
use Rattle.tl_run.specs.InRounds.{TakesRounds}
use Rattle.tl_run.specs.Scripts.{AreBelow, near_counts}
use Rattle.tl_run.proofs.OnlyMemory.{not-ok, only-memory, stalled-never}
use Rattle.tl_run.proofs.sync_run.run_sync.Goals as goal

pub returns-then-ring-eq0 : goal.returns-then-ring-eq0
returns-then-ring-eq0 g c = record {
  outcome = tt;
  rounds = tt;
  exact = tt;
  size = λ ok. not-ok ok;
  ring_size = (λ same. ⊎_elim (λ z. inl z) (λ p. inr p.1) c.then-ring-eq0.either, λ either. refl);
  never_stalled = stalled-never _ refl;
}

pub returns-in_default : goal.returns-in_default
returns-in_default g c =
    let only = only-memory _ refl c.args.ring c.if-ring-eq0.false c.if-ring-gt-MAX_RING.false in
    record { outcome = tt; rounds = tt; exact = tt; size = λ ok. not-ok ok; ring_size = only.0; never_stalled = only.1 }

pub returns-in-Ok-run_into_lists : goal.returns-in-Ok-run_into_lists
returns-in-Ok-run_into_lists g c =
    let run = c.in-Ok-run_into_lists.ensures in
    record {
      outcome = c.outcome_at.ensures.outcome (near_beats c.args.script.now) run.ended.0 run.ended.1;
      rounds = subst (λ k. AreBelow (near_counts (near_beats c.args.script.now)) k) (sym c.outcome_at.ensures.rounds)
          (subst (λ n. AreBelow n c.in-Ok-run_into_lists.end.rounds)
          (c.outcome_at.ensures.counts (near_beats c.args.script.now) run.ended.0 run.ended.1) run.each);
      exact = subst (λ k. TakesRounds (near_beats c.args.script.now) c.args.ring k) (sym c.outcome_at.ensures.rounds) run.exact;
      size = λ _. run.size refl;
      ring_size = tt;
      never_stalled = tt;
    }

pub returns-in-Err : goal.returns-in-Err
returns-in-Err g c =
    let only = only-memory c.in-Err.fault c.in-Err.ensures.memory c.args.ring c.if-ring-eq0.false c.if-ring-gt-MAX_RING.false in
    record { outcome = tt; rounds = tt; exact = tt; size = λ ok. not-ok ok; ring_size = only.0; never_stalled = only.1 }
