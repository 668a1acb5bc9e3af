pub mod SplitRoundSteps
pub mod Merges
pub mod Splits
pub mod BlockLabels
pub mod EdgeCounts
pub mod Viewed
pub mod FirstCandidates
