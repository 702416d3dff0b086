pub mod Parts
pub mod Stopping
