pub mod Passes
pub mod FirstTokens
