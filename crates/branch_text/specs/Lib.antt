pub mod Parsed
pub mod BranchTokens
pub mod BranchTokenPrefixes
pub mod Heads
pub mod BranchTexts
