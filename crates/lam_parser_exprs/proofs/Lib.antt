pub mod Ranks
pub mod Lists
