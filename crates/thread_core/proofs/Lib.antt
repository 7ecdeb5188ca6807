pub mod Untested
pub mod Tops
pub mod Cases
pub mod Kept
