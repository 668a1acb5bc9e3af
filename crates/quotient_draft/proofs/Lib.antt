pub mod PutLists
pub mod Scanned
mod Spans
pub mod DraftedMoves
pub mod Emptied
mod Over
mod Examples
pub mod AppliedDrafts
mod PairCounts
pub mod Gone
mod ShownCounts
mod Linked
mod ListedMembers
pub mod Settled
mod Noted
mod SupportLists
mod Forgotten
mod Touched
mod NextBlocks
mod ShownMembers
