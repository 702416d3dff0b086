pub mod Names
mod Rows
mod Grown
mod FarTexts
pub mod Answering
pub mod Whole
pub mod Writing
pub mod Headers
pub mod Running
pub mod Consuming
pub mod Crossings
pub mod CrossingSize
