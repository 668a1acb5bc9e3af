pub mod WordTests
pub mod Longest
pub mod OneTree
pub mod CanonicalTexts
pub mod TrimmedLaws
pub mod Examples
