use Rattle.std.specs.Prelude.{Result, Ok, Err, IsOkAnd, IfOk}
use Rattle.std.proofs.Common.{◌≡◌, ◌+◌, ◌<◌, ℕ, refl, lit<, arith}
use Rattle.tl_lanes.proofs.Widths.{width_4}
use Rattle.tl_run.specs.declared.outcome.Outcome.{Outcome}
use Rattle.tl_run.specs.declared.outcome.RunFault.{RunFault}
use Rattle.bridge_tests.proofs.run.counting_gate.count_calls.Goals as goal

-- a gate that was new counts the rounds
counted : (ended : Result (Outcome 4 4) RunFault) (rounds calls : ℕ) → IsOkAnd ended (λ outcome. outcome.rounds ≡ rounds) →
    rounds < 18446744073709551616 →
    IfOk ended (λ outcome. 0 + outcome.rounds < 18446744073709551616 → calls ≡ 0 + outcome.rounds) → calls ≡ rounds
counted (Ok outcome) rounds calls is few passed =
    let now = passed (omega (arith, is, few)) in
    omega (arith, is, now)
counted (Err fault) rounds calls is few passed = absurd is

pub run_threads-ended-requires-after_bounds : goal.run_threads-ended-requires-after_bounds
run_threads-ended-requires-after_bounds g c κs within = (lit< tt, (lit< tt, (width_4, (width_4, (c.requires.short, omega arith)))))

pub returns-in-Some : goal.returns-in-Some
returns-in-Some g c =
    let ended = c.run_threads-ended in
    let rounds = c.in-Some.rounds in
    record {
      counts = (
        counted ended.result rounds ended.new.client_gate.calls c.in-Some.ensures.0 c.in-Some.ensures.1 (ended.ensures.client_rounds 0 (λ few. refl)),
        counted ended.result rounds ended.new.manager_gate.calls c.in-Some.ensures.0 c.in-Some.ensures.1 (ended.ensures.manager_rounds 0 (λ few. refl)),
      );
    }
