pub mod Characters
pub mod Text
pub mod Lexed
pub mod Letters
pub mod Reading
