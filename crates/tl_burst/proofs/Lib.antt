pub mod Names
mod Rows
mod FaultRows
mod LayoutRows
pub mod Fits
pub mod Places
pub mod LaneShift
pub mod Numbers
pub mod OnLane
pub mod Runs
pub mod Burst
pub mod HandedSteps
pub mod RestOf
pub mod SpelledRun
pub mod RunSpelled
pub mod Admitted
pub mod MaskTest
pub mod FaultsExact
pub mod BegunMessages
pub mod Steps
mod Holding
pub mod GrantAcks
pub mod PlacesExact
pub mod Fronts
