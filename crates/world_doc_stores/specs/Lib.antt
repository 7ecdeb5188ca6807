pub mod Contents
pub mod Meaning
pub mod Seen
