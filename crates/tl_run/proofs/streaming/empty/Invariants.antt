use Rattle.tl_run.proofs.Names.{◌≡◌, ℕ, Beats, PerChannel, IsSound, all_ways, HaveRoomToCount, IsRunning}
use Rattle.tl_run.specs.Streaming.{HasRoomForAll}
use Rattle.tl_run.proofs.streaming.empty.Given as goal

abbrev pub invariant-moves : goal.invariant-moves
invariant-moves g l = record {
  sound : IsSound l.bridge;
  on : (near : Beats g.row.C g.row.M) (n : PerChannel ℕ) → HaveRoomToCount n → IsRunning g.F.FarSink.Holds near n l.fn.taken l.fn.far l.fn.bridge →
      IsRunning g.F.FarSink.Holds near n l.taken l.far l.bridge;
  memory : (near : Beats g.row.C g.row.M) (n : PerChannel ℕ) → HaveRoomToCount n →
      IsRunning g.F.FarSink.Holds near n l.fn.taken l.fn.far l.fn.bridge → HasRoomForAll g.F.FarSink.HasRoom near l.fn.far →
      HasRoomForAll g.F.FarSink.HasRoom near l.far;
  same : g.F.FarSink.made_with l.far ≡ g.F.FarSink.made_with l.fn.far;
}

abbrev pub decreases-moves : goal.decreases-moves
decreases-moves g l = all_ways l.bridge
