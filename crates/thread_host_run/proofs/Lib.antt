mod SeekLemmas
mod RunLemmas
pub mod CourseLemmas
mod PrivateLemmas
mod ReadyLemmas
pub mod ListedReady
mod Others
mod Kept
mod NumberLemmas
mod WaitingLemmas
mod Touching
mod Tellings
pub mod StretchLemmas
pub mod GoingLemmas
mod BookLemmas
