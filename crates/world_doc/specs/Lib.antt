pub mod Document
pub mod Found
pub mod Called
