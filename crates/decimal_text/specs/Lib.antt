pub mod Decimal
pub mod Exact
pub mod Reads
