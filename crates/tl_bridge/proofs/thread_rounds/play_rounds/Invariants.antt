use Rattle.std.proofs.Common.{◌+◌, ◌-◌, ◌≤◌, ℕ}
use Rattle.tl_bridge.proofs.Words.{near_beats, HasRoomFor, beats_of, run_end}
use Rattle.tl_bridge.specs.Inner.Arriving.{taken_of}
use Rattle.tl_bridge.specs.Inner.Sides.{HasMet, met_progress}
use Rattle.tl_bridge.proofs.thread_rounds.play_rounds.Given as goal

abbrev pub invariant-rounds : goal.invariant-rounds
invariant-rounds g l = record {
  met : HasMet (near_beats l.script) l.at (beats_of (taken_of l.client l.manager)) l.client.side l.manager.side;
  room : HasRoomFor (near_beats l.script) (taken_of l.client l.manager);
  few : l.rounds ≤ met_progress l.at l.client.side l.manager.side;
  client_passed : (n : ℕ) → g.G.Gate.HasPassed n l.fn.client_gate → g.G.Gate.HasPassed (n + l.rounds) l.client_gate;
  manager_passed : (n : ℕ) → g.H.Gate.HasPassed n l.fn.manager_gate → g.H.Gate.HasPassed (n + l.rounds) l.manager_gate;
}

abbrev pub decreases-rounds : goal.decreases-rounds
decreases-rounds g l = run_end (near_beats l.script) - met_progress l.at l.client.side l.manager.side
