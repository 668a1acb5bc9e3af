pub mod Exactness
pub mod Extents
pub mod Candidates
