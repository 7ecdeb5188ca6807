pub mod StmtBodies
pub mod Assignment
