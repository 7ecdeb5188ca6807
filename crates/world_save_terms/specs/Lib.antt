pub mod Compact
pub mod Items
pub mod Rows
pub mod Document
pub mod Refusals
