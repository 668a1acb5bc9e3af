mod Links
mod Mirrors
mod MemberLinkLaws
mod Counts
pub mod PutNumbers
mod Growth
mod FreedNumbers
mod NumberSets
mod ListedBlocks
mod KeepsSound
pub mod Appended
pub mod Filled
