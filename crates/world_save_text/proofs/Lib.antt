pub mod Seams
pub mod Lists
pub mod Openings
pub mod Lengths
pub mod Written
pub mod Writings
