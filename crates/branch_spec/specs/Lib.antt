pub mod Trees
pub mod BranchAnswers
pub mod Relaxed
pub mod Depths
pub mod Tokens
pub mod Spelling
