pub mod SameTerms
pub mod Positions
pub mod Stored
pub mod Spelled
pub mod FoundLemmas
