pub mod Queries
pub mod Candidates
