pub mod Lists
pub mod Grouped
pub mod Choices
pub mod Moves
pub mod Keyed
pub mod SplitNodes
pub mod SplitLaws
pub mod SplitterLaws
