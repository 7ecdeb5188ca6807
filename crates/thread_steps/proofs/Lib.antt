pub mod UnitLists
pub mod CountedRegions
