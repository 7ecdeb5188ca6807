pub mod TakenLemmas
pub mod ReportLemmas
