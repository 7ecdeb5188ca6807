pub mod Types
pub mod Forms
pub mod Parts
pub mod Variables
