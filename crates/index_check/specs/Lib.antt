pub mod ComparedLists
pub mod OuterParents
pub mod ClosedParents
