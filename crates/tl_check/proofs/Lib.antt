pub mod Names
pub mod NewHeads
pub mod Passing
pub mod Noting
pub mod Steps
pub mod Ends
pub mod Parts
