pub mod Passing
pub mod Ending
