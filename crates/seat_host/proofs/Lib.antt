pub mod Fronts
pub mod Spreading
pub mod Entering
pub mod Moves
pub mod Turning
pub mod Closing
pub mod Apart
pub mod Merging
