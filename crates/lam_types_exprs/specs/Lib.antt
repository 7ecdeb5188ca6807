pub mod Exprs
pub mod Judgement
pub mod Meets
