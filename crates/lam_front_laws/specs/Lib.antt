pub mod Law
pub mod Follow
pub mod DerivationLaw
