pub mod Uses
pub mod Choices
