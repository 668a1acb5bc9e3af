pub mod Nodes
pub mod Groups
pub mod Chosen
pub mod Moved
pub mod Splits
pub mod Splitters
