pub mod CountLemmas
pub mod Keys
pub use Rattle.lam_value_homes.proofs.Listings
pub use Rattle.lam_value_homes.proofs.Maps
pub use Rattle.lam_value_homes.proofs.Rows
pub use Rattle.lam_value_homes.proofs.SameLemmas
