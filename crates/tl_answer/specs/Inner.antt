pub mod Parts
pub mod Answered
pub mod FarTexts
pub mod Consuming
pub mod Checking
pub mod Crossing
pub mod Sizes
