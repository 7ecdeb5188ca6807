pub mod Blocks
pub mod RegionArms
pub mod Sizes
pub mod StmtArms
