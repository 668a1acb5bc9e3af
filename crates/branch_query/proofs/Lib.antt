pub mod Examples
pub mod BranchExamples
