pub mod Leasts
pub mod Entries
pub mod Listed
pub mod AllTags
pub mod InOrder
pub mod Once
