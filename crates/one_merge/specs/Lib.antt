pub mod MergeTests
pub mod Merged
pub mod MergeableShown
pub mod ParentlessBlocks
pub mod ShownMerges
