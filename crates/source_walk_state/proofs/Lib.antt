pub mod Chains
pub mod Opening
pub mod Going
pub mod Delimiters
pub mod Begins
pub mod Programs
