pub mod WrittenSides
pub mod KeyLaws
pub mod SideMarks
pub mod NumberedNodes
pub mod LabelledNodes
pub mod LevelLaws
pub mod SidedRefinement
