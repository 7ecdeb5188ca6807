pub mod PartLemmas
pub mod MeetLemmas
pub mod PairLemmas
