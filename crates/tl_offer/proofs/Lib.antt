pub mod Names
pub mod OfferSteps
pub mod NextOffers
