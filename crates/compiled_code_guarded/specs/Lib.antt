pub mod Compiled
pub mod Samples
pub mod Layouts
