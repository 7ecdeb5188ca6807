pub mod Once
pub mod Found
