pub mod OuterKeys
pub mod ComparedLaws
pub mod LevelLaws
pub mod Stable
pub mod ClosedKeys
pub mod MinimalLaws
pub mod Renamed
pub mod ViaLaws
