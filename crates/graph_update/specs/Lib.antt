pub mod NamedSteps
pub mod ShownNeighbours
pub mod PendingChanges
pub mod StagedChanges
