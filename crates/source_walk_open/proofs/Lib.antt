pub mod Opened
pub mod ExprForms
pub mod StmtForms
pub mod Signing
