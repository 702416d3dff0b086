mod Words
pub mod Draining
mod Lifting
pub mod BridgeSteps
pub mod BoxSteps
pub mod Bridging
mod Passing
mod NewEnds
pub mod SameSides
mod Times
pub mod SideSteps
mod Arriving
mod ArrivingSides
pub mod Sums
pub mod BridgeSize
mod Layouts
pub mod Legal
pub mod Separate
pub mod Finishing
mod Totals
