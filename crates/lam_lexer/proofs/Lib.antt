pub mod Runs
pub mod TextRuns
pub mod Steps
pub mod Whole
pub mod Laws
pub mod Letters
