pub mod Positions
pub mod SearchedPieces
pub mod ListWithout
pub mod SegmentLemmas
pub mod Exchanged
