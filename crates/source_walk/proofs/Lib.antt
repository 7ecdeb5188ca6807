mod Beginnings
mod Telling
mod Starting
pub mod Reading
