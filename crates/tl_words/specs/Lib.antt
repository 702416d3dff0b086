pub mod CommandLines
pub mod Inner
