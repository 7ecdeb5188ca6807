pub mod Addresses
pub mod Units
pub mod Programs
