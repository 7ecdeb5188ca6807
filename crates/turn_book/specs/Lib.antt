pub mod Book
pub mod Cuts
pub mod Reading
pub mod Limits
