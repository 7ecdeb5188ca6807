pub mod Asks
pub mod Alone
pub mod Headline
pub mod Shown
pub mod Checked
pub mod Orderly
