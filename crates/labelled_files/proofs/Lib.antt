pub mod EntryLemmas
pub mod MakeLemmas
pub mod SeenLemmas
pub mod SoundLemmas
pub mod TreeLemmas
