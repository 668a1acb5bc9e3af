pub mod NeighbourCosts
pub mod Shifts
