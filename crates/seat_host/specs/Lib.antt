pub mod Places
pub mod Answers
pub mod Books
pub mod Law
pub mod Seats
pub mod Laws
