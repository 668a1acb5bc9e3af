pub mod LabelLaws
pub mod LabelsAhead
pub mod PendingLaws
pub mod ShownLaws
pub mod NamedParts
mod StagedSteps
mod DroppedEdges
mod PlannedSteps
