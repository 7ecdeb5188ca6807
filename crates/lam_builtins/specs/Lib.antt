pub mod Types
pub mod Operators
pub mod Builtins
pub mod Rows
pub mod Limits
