pub mod Sessions
pub mod Openings
pub mod Edits
pub mod Asked
pub mod TextAnswers
