pub mod Steps
pub mod TableLemmas
pub mod Adding
