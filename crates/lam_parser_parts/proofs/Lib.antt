pub mod Begun
pub mod Steps
pub mod Forms
pub mod Lists
pub mod NameLists
pub mod Sums
