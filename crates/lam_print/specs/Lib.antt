pub mod Pieces
pub mod Canon
pub mod Printing
pub mod Law
pub mod Fitting
