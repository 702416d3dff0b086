pub mod Messages
pub mod Spelling
pub mod Reading
pub mod Handing
pub mod Begun
pub mod Tracking
pub mod Inner
