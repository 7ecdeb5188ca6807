pub mod BookLemmas
pub mod CutLemmas
pub mod WrittenLemmas
pub mod LineLemmas
pub mod StretchLemmas
