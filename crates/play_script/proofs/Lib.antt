pub mod WordLemmas
pub mod PieceLemmas
pub mod LineLemmas
pub mod GrammarLemmas
pub mod BackLemmas
pub mod WholeLemmas
