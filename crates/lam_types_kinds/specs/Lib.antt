pub mod Breaks
pub mod Tables
pub mod Written
pub mod Values
pub mod Meets
pub mod Verdicts
pub mod MeetsVerdicts
