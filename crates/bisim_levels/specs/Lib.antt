pub mod NeighbourSides
pub mod Numbering
pub mod SidedKeys
