pub mod Packed
pub mod Seen
pub mod Leaves
pub mod Joined
