pub mod Offering
pub mod Widths
