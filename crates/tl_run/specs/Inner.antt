pub mod Running
pub mod Arriving
pub mod Sizes
pub mod Going
