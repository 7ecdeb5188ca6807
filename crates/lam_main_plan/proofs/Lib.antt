pub mod SaveOnce
pub mod PlanLemmas
pub mod ReadLemmas
pub mod BookLemmas
pub mod PlayLemmas
pub mod FormatLemmas
pub mod AnswerLemmas
