pub mod Examples
pub mod NodeTextLemmas
pub mod AnswerExamples
mod Chained
pub mod NumberedTexts
mod NodeWords
mod Summed
pub mod RisingLists
mod LeastMembers
pub mod AgreeingShapes
mod ListedSummaries
mod PairCounts
mod Sized
