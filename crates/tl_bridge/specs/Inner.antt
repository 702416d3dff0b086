pub mod Arriving
pub mod Sides
pub mod Sizes
