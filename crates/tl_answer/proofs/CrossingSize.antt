-- A run into texts takes little memory, whatever its two widths are.
use Rattle.tl_answer.proofs.Names.{◌<◌, ◌^◌, ℕ, refl, IsWidth}
use Rattle.tl_sides.proofs.BridgeSize.{small_at_widths}
use Rattle.tl_answer.specs.Inner.Sizes.{run_size, crossing_size}

pub run_small : (C M : ℕ) → IsWidth C → IsWidth M → run_size C M < 2 ^ 63
run_small = small_at_widths run_size refl

pub crossing_small : (C M : ℕ) → IsWidth C → IsWidth M → crossing_size C M < 2 ^ 63
crossing_small = small_at_widths crossing_size refl
