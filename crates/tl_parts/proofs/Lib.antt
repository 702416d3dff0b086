pub mod Parts
pub mod Stopping
pub mod Takes
pub mod Channels
pub mod Lives
