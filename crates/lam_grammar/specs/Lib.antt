pub mod Table
pub mod Meaning
pub mod Program
pub mod Examples
