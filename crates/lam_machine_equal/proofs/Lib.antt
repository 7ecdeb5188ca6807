pub mod ThreadParts
pub mod WorldParts
pub mod Kept
