pub mod Written
pub mod Again
pub mod Apart
pub mod TheLaw
