pub mod Deepest
pub mod Fits
pub mod Meets
pub mod OnePlace
pub mod Tops
