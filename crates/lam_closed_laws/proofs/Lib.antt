pub mod Bases
pub mod PlanLemmas
pub mod AloneLemmas
pub mod CallLemmas
pub mod CheckLemmas
pub mod OrderlyLemmas
