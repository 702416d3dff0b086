pub mod Inner
pub mod Time
pub mod Times
