pub mod Classes
pub mod Reading
