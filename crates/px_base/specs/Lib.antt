pub mod BitSets
pub mod Causes
pub mod Files
pub mod GatheredLines
pub mod InMemory
pub mod LineEnds
pub mod ReaderStates
