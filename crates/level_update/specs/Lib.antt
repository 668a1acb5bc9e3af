pub mod MovedLevels
pub mod Placed
pub mod LevelCosts
pub mod FamilyDrafts
pub mod LevelEffects
