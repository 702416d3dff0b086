mod Rows
pub mod Widths
pub mod Masks
pub mod ActiveLanes
pub mod LaneRuns
pub mod LaneMoves
pub mod MaskMoves
pub mod Sizes
mod Quotients
