use Rattle.tl_run.proofs.Names.{◌≡◌, ◌-◌, Beats, ArePart, all_counts}
use Rattle.tl_run.specs.Streaming.{CanRun, HasRoomForAll, HasRun}
use Rattle.tl_run.proofs.Pieces.{all_ends}
use Rattle.tl_run.proofs.streaming.go_through.Given as goal

abbrev pub invariant-turns : goal.invariant-turns
invariant-turns g l = record {
  can : CanRun l.run l.held;
  discarded : l.run.discarded ≡ l.fn.run.discarded;
  on : (near : Beats g.row.C g.row.M) → ArePart l.fn.run.discarded l.held near → HasRun g.F.FarSink.Holds near l.fn.far l.fn.run →
      HasRun g.F.FarSink.Holds near l.far l.run;
  memory : (near : Beats g.row.C g.row.M) → ArePart l.fn.run.discarded l.held near → HasRun g.F.FarSink.Holds near l.fn.far l.fn.run →
      HasRoomForAll g.F.FarSink.HasRoom near l.fn.far → HasRoomForAll g.F.FarSink.HasRoom near l.far;
  same : g.F.FarSink.made_with l.far ≡ g.F.FarSink.made_with l.fn.far;
}

abbrev pub decreases-turns : goal.decreases-turns
decreases-turns g l = all_ends l.run.discarded l.held - all_counts l.run.at
