pub mod Entries
pub mod Noting
