pub mod Explained
pub mod Fates
pub mod Inner
