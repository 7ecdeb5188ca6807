pub mod Entered
pub mod Entries
pub mod Going
pub mod Handing
pub mod Flags
pub mod Rows
pub mod Sweeps
pub mod Units
