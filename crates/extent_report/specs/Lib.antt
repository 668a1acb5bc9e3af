pub mod ListedBlocks
pub mod PrintedAnswers
pub mod NodeTexts
pub mod Summaries
pub mod MemberChains
pub mod FirstMembers
pub mod PrintedLists
