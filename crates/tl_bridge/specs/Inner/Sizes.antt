-- The number of bytes of a side, of the state of its thread, and of a beat. Only contracts of private functions use
-- these definitions.
use Rattle.std.specs.Prelude.{ℕ, ◌+◌, ◌*◌}
use denote.Param.{layout, param, number}
use prog.Memory.{size, up}
pub use Rattle.tl_sides.proofs.BridgeSize.{client_size, manager_size}
use Rattle.tl_bridge.specs.contracts.client_turns.ClientRun as client_run
use Rattle.tl_bridge.specs.contracts.manager_turns.ManagerRun as manager_run

abbrev pub client_run_size : (C M : ℕ) → ℕ
client_run_size C M = size (layout (client_run.the_row (param 0 (number C)) (param 1 (number M))))

abbrev pub manager_run_size : (C M : ℕ) → ℕ
manager_run_size C M = size (layout (manager_run.the_row (param 0 (number C)) (param 1 (number M))))

-- on a bus of w bytes, on each channel
abbrev pub beat_size : ℕ → ℕ
beat_size w = up 16 (up 1 (32 + w * 1) + 1)
