pub mod Breaks
pub mod Tags
pub mod Stores
pub mod Numbered
pub mod SavedItems
pub mod Entries
pub mod Start
