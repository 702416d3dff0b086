-- The widths of both sides. Only contracts of the runs use this definition.
use Rattle.std.specs.Prelude.{ℕ}
use Rattle.tl_lanes.specs.Lanes.{IsWidth}

-- both are widths
pub record AreWidths (C M : ℕ) : Type 0 where
  pub client : IsWidth C
  pub manager : IsWidth M
