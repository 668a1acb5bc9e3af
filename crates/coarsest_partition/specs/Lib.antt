pub mod Refined
pub mod ActiveSides
pub mod SingletonBlocks
pub mod IndexBlocks
pub mod Ordered
