-- The state of a side's thread fits in memory, whatever the two widths are.
use Rattle.std.proofs.Common.{◌<◌, ◌^◌, ℕ, refl}
use Rattle.tl_bridge.proofs.Words.{IsWidth, small_at_widths}
use Rattle.tl_bridge.specs.Inner.Sizes.{client_run_size, manager_run_size}

pub client_run_small : (C M : ℕ) → IsWidth C → IsWidth M → client_run_size C M < 2 ^ 63
client_run_small = small_at_widths client_run_size refl

pub manager_run_small : (C M : ℕ) → IsWidth C → IsWidth M → manager_run_size C M < 2 ^ 63
manager_run_small = small_at_widths manager_run_size refl
