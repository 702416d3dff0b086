-- The number of bytes of a run that writes texts, and of its run. Only private contracts use these words.
use Rattle.std.specs.Prelude.{ℕ}
use denote.Param.{layout, param, number}
use prog.Memory.{size}
pub use Rattle.tl_sides.proofs.BridgeSize.{bridge_size}
pub use Rattle.tl_bridge.specs.Inner.Sizes.{beat_size}
use Rattle.tl_run.specs.contracts.streaming.SyncRun as run
use Rattle.tl_answer.specs.contracts.crossing.Crossing as crossing

abbrev pub run_size : (C M : ℕ) → ℕ
run_size C M = size (layout (run.the_row (param 0 (number C)) (param 1 (number M))))

abbrev pub crossing_size : (C M : ℕ) → ℕ
crossing_size C M = size (layout (crossing.the_row (param 0 (number C)) (param 1 (number M))))
