pub mod Coding
pub mod Agendas
pub mod Noting
