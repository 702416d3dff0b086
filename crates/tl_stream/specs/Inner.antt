pub mod Reading
pub mod Filling
pub mod Lines
pub mod Keeping
pub mod Consuming
