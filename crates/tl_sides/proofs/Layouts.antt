-- How ports, bridge and sides lie in memory, and how small their parts are: the number of a field is its place in `part` of `FieldSizes`.
use Rattle.std.proofs.Common.{ℕ}
use Rattle.std.specs.declared.alloc.Allocator.{Ghosts}
use denote.Param.{layout, param, number}
use denote.RattleType.{RattleType}
use mir.Syntax.{Ty}
pub use Rattle.tl_ring.proofs.FieldSizes.{beat_in_queue, beat_small, inner_small, part, part_small}
use Rattle.tl_sides.specs.contracts.client_port.ClientPort as client_port
use Rattle.tl_sides.specs.contracts.manager_port.ManagerPort as manager_port
use Rattle.tl_sides.specs.contracts.sync_bridge.SyncBridge as sync_bridge
use Rattle.tl_sides.specs.contracts.client_side.ClientSide as client_side
use Rattle.tl_sides.specs.contracts.manager_side.ManagerSide as manager_side

abbrev pub client_layout : (C M : ℕ) (A : RattleType) → Ghosts A.Denot → Ty
client_layout C M A ghosts = layout (client_port.the_row (param 0 (number C)) (param 1 (number M)) (param 2 A) ghosts)

abbrev pub manager_layout : (C M : ℕ) (A : RattleType) → Ghosts A.Denot → Ty
manager_layout C M A ghosts = layout (manager_port.the_row (param 0 (number C)) (param 1 (number M)) (param 2 A) ghosts)

abbrev pub bridge_layout : (C M : ℕ) (A : RattleType) → Ghosts A.Denot → Ty
bridge_layout C M A ghosts = layout (sync_bridge.the_row (param 0 (number C)) (param 1 (number M)) (param 2 A) ghosts)

abbrev pub client_side_layout : (C M : ℕ) (A : RattleType) → Ghosts A.Denot → Ty
client_side_layout C M A ghosts = layout (client_side.the_row (param 0 (number C)) (param 1 (number M)) (param 2 A) ghosts)

abbrev pub manager_side_layout : (C M : ℕ) (A : RattleType) → Ghosts A.Denot → Ty
manager_side_layout C M A ghosts = layout (manager_side.the_row (param 0 (number C)) (param 1 (number M)) (param 2 A) ghosts)
