pub mod WriteLemmas
pub mod TookLemmas
pub mod FileLemmas
pub mod FaultLemmas
