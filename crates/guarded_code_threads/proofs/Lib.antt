pub mod Agreeing
pub mod Addresses
pub mod Trading
pub mod Turning
pub mod Spawning
pub mod Accessing
pub mod Forms
pub mod Keeping
