pub mod Runs
pub mod Bits
pub mod RowMarks
pub mod PairMarks
pub mod SearchInvariant
pub mod Inside
pub mod Forks
