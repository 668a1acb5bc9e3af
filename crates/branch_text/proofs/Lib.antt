pub mod TokenPrefixLaws
pub mod OneText
pub mod Shortness
pub mod GrammarLaws
pub mod Canon
pub mod BranchRoundTrips
