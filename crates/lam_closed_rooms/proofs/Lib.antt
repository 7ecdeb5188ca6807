pub mod ReportLemmas
pub mod TakenLemmas
pub mod CheckLemmas
