pub mod Faults
pub mod Inputs
pub mod Outputs
pub mod Consuming
pub mod Statuses
pub mod Inner
