pub mod EndLemmas
pub mod DoneLemmas
