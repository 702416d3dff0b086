pub mod Names
mod Rows
pub mod SameHeads
pub mod Persist
pub mod Orders
pub mod Opens
pub mod Marks
pub mod Settles
pub mod Sides
pub mod Manager
pub mod Grows
pub mod Homes
pub mod Runs
pub mod ChannelFacts
pub mod Obeys
pub mod Links
pub mod Admits
mod LastOpen
mod Brings
mod EndsSettled
pub mod RunsObey
pub mod Longer
mod WholeRuns
pub mod InOrder
pub mod Timing
pub mod Entries
pub mod Between
pub mod Answering
pub mod Noted
mod Kept
