pub mod Giving
pub mod Pouring
