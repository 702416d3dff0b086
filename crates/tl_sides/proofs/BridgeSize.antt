-- A bridge, and each side of one, takes little memory, whatever the two widths are.
use Rattle.std.proofs.Common.{◌≡◌, ◌<◌, ◌^◌, ℕ, true, refl}
use Rattle.std.specs.Prelude.{nat_lt}
use Rattle.tl_sides.proofs.Words.{IsWidth, at_widths, each_width, true_less}
use denote.Param.{layout, param, number}
use mir.Syntax.{Ty}
use prog.Memory.{size}
use Rattle.std.specs.contracts.alloc.Global as global
use Rattle.std.specs.contracts.impls.GlobalAllocator.TheImpl as allocator
use Rattle.tl_sides.specs.contracts.sync_bridge.SyncBridge.{the_row}
use Rattle.tl_sides.specs.contracts.client_side.ClientSide as client
use Rattle.tl_sides.specs.contracts.manager_side.ManagerSide as manager

-- how a bridge lies in memory, and how many bytes it takes
abbrev pub bridge_type : (C M : ℕ) → Ty
bridge_type C M = layout (the_row (param 0 (number C)) (param 1 (number M)) (param 2 global.the_row) allocator.ghosts)

abbrev pub bridge_size : (C M : ℕ) → ℕ
bridge_size C M = size (bridge_type C M)

-- a size that is small at each pair of widths, as a test of each pair shows, is small at every pair
pub small_at_widths : (f : ℕ → ℕ → ℕ) → at_widths (λ C. at_widths (λ M. nat_lt (f C M) (2 ^ 63))) ≡ true → (C M : ℕ) →
    IsWidth C → IsWidth M → f C M < 2 ^ 63
small_at_widths f passes C M c m =
    let row : at_widths (λ M. nat_lt (f C M) (2 ^ 63)) ≡ true = each_width (λ C. at_widths (λ M. nat_lt (f C M) (2 ^ 63))) passes C c in
    true_less (f C M) (2 ^ 63) (each_width (λ M. nat_lt (f C M) (2 ^ 63)) row M m)

pub bridge_small : (C M : ℕ) → IsWidth C → IsWidth M → bridge_size C M < 2 ^ 63
bridge_small = small_at_widths bridge_size refl

-- and so does a side
abbrev pub client_size : (C M : ℕ) → ℕ
client_size C M = size (layout (client.the_row (param 0 (number C)) (param 1 (number M)) (param 2 global.the_row) allocator.ghosts))

abbrev pub manager_size : (C M : ℕ) → ℕ
manager_size C M = size (layout (manager.the_row (param 0 (number C)) (param 1 (number M)) (param 2 global.the_row) allocator.ghosts))

pub client_small : (C M : ℕ) → IsWidth C → IsWidth M → client_size C M < 2 ^ 63
client_small = small_at_widths client_size refl

pub manager_small : (C M : ℕ) → IsWidth C → IsWidth M → manager_size C M < 2 ^ 63
manager_small = small_at_widths manager_size refl
