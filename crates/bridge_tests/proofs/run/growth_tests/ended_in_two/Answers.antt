use Rattle.std.proofs.Common.{lit<, arith}
use Rattle.tl_lanes.proofs.Widths.{width_4, width_8}
use Rattle.bridge_tests.proofs.run.growth_tests.ended_in_two.Goals as goal

pub run_threads-ended-requires-after_bounds : goal.run_threads-ended-requires-after_bounds
run_threads-ended-requires-after_bounds g c κs within = (lit< tt, (lit< tt, (width_4, (width_8, (c.requires.short, omega arith)))))
