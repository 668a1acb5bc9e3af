pub mod NumberedNodes
pub mod NeighbourBlocks
pub mod LevelLaws
pub mod ListingLaws
pub mod WatchLaws
pub mod MoveLaws
pub mod ChangeLaws
pub mod ActiveLaws
