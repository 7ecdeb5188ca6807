pub mod Grammar
pub mod Texts
pub mod Examples
pub mod Stopping
pub mod Deriving
pub mod Follow
