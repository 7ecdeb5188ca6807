pub mod Law
pub mod ProgramLaw
pub mod EndLemmas
pub mod Arms
pub mod Pieces
pub mod Whole
pub mod FunctionLemmas
