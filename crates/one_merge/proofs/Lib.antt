mod Columns
mod MergedSupports
mod MergedLoops
mod MergeTestLaws
mod MergePairLaws
mod Counted
mod MergedNeighbours
mod ParentlessLaws
