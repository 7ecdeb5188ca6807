pub mod Signed
pub mod Opens
