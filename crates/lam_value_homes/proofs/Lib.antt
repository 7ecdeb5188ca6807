pub mod Keys
pub mod Listings
pub mod Maps
pub mod Rows
pub mod SameLemmas
