pub mod Endings
pub mod Stmts
pub mod Parts
pub mod Program
pub mod Judgement
pub mod Meets
pub mod Seen
