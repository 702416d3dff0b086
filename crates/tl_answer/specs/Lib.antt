pub mod Answer
pub mod Texts
pub mod Inner
