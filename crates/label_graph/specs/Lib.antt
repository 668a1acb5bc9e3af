pub mod LabelTable
pub mod Nodes
pub mod NodeRows
pub mod ReservedGraphs
pub mod PairMarks
pub mod Soundness
pub mod GraphViews
pub mod ViewLaws
