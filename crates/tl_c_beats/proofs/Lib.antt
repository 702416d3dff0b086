pub mod Closing
pub mod Numbers
pub mod Offering
pub mod Owners
mod AsOwner
pub mod Receipts
pub mod Rounds
pub mod Telling
