use Rattle.tl_run.proofs.Names.{◌+◌, ◌-◌, ◌≤◌, ℕ, near_beats, beats_of, nothing_yet, IsUnderWay, StandsFor}
use Rattle.tl_run.proofs.Ended.{progress_here, run_end}
use Rattle.tl_run.specs.Inner.Arriving.{HasRoomFor}
use Rattle.tl_run.specs.Scripts.{AreBelow}
use Rattle.tl_run.proofs.TakesRounds.{HasGone}
use Rattle.tl_run.proofs.rounds.run_rounds.Given as goal

abbrev pub invariant-rounds : goal.invariant-rounds
invariant-rounds g l = record {
  under_way : IsUnderWay (near_beats l.script) l.at (beats_of l.far) l.bridge;
  room : HasRoomFor (near_beats l.script) l.far;
  exact : (ring : ℕ) → 1 ≤ ring → StandsFor l.fn.bridge (nothing_yet ring) →
      HasGone (near_beats l.script) ring l.rounds l.at (beats_of l.far) l.bridge;
  each : AreBelow l.at (l.rounds + 1);
  few : l.rounds ≤ progress_here l.at (beats_of l.far) l.bridge;
}

abbrev pub decreases-rounds : goal.decreases-rounds
decreases-rounds g l = run_end (near_beats l.script) - progress_here l.at (beats_of l.far) l.bridge
