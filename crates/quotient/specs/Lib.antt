pub mod Quotients
pub mod DigraphLaws
pub mod QuotientNeighbours
pub mod QuotientTables
pub mod NeighbourCells
