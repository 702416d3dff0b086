pub mod Names
pub mod Lengths
pub mod Between
pub mod ToRead
mod Reading
mod Filling
mod Consuming
mod Writing
