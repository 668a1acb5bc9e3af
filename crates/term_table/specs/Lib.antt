pub mod Terms
pub mod TermParts
pub mod Entries
pub mod FoundTerms
