pub mod Laws
pub mod FirstWorlds
