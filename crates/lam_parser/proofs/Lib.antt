pub mod Faults
pub mod Lists
pub mod Starts
pub mod Blocks
pub mod ItemBodies
pub mod Left
pub mod OneAnswer
