pub mod Numbering
pub mod NeighbourSides
pub mod NumberedShapes
pub mod Active
pub mod Listing
pub mod Changes
pub mod Watches
