pub mod Handles
pub mod Calls
pub mod Inboxes
pub mod Settling
