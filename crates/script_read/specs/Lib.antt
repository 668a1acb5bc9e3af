pub mod FirstWords
pub mod Commands
pub mod ScannedLines
pub mod ReadLines
