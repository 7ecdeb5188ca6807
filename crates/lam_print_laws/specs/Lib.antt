pub mod Words
pub mod Law
