pub mod Names
mod Moving
pub mod InRounds
mod TakesRounds
mod Rows
pub mod ChannelRound
pub mod ChannelEnd
pub mod RoundMoves
pub mod RunRound
pub mod OnlyMemory
pub mod Round
mod Channels
mod Going
mod Rooms
pub mod Ended
pub mod EndsIn
pub mod Pieces
pub mod Stuck
pub mod Below
mod DueBounds
pub mod ChannelOffer
pub mod AllOffers
pub mod Counting
pub mod AllOk
pub mod Emptiness
pub mod Memory
