pub mod LineEndLaws
pub mod GatheredParts
pub mod FlagIndexes
pub mod Shelves
pub mod TakenLines
pub mod Windows
pub mod WrittenPrefixes
