pub mod Emits
pub mod Views
pub mod Labels
pub mod Forks
