pub mod CellLemmas
pub mod TextLemmas
pub mod FlowLemmas
pub mod ViewLemmas
pub mod MomentLemmas
pub mod RunLemmas
pub mod LawLemmas
