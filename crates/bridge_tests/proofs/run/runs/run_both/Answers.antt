use Rattle.std.proofs.Common.{lit<, arith}
use Rattle.tl_lanes.proofs.Widths.{width_4}
use Rattle.bridge_tests.proofs.run.runs.run_both.Goals as goal

pub run_threads-threads-requires-after_bounds : goal.run_threads-threads-requires-after_bounds
run_threads-threads-requires-after_bounds g c κs within = (lit< tt, (lit< tt, (width_4, (width_4, (c.requires.short, omega arith)))))
