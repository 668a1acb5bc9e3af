pub mod AddedPieces
pub mod Steps
pub mod Examples
