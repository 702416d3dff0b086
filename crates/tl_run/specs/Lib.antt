pub mod Arrivals
pub mod Running
pub mod InRounds
pub mod Scripts
pub mod Streaming
pub mod Names
pub mod Inner
