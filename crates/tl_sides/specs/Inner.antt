pub mod NotingAll
pub mod Making
pub mod Meeting
