pub mod Turning
pub mod Coming
pub mod Moves
pub mod Steps
pub mod Untested
