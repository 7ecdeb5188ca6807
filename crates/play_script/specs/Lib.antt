pub mod Pieces
pub mod Script
pub mod Grammar
pub mod Whole
