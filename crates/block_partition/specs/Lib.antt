pub mod LabelledPartitions
pub mod Tables
pub mod Soundness
pub mod MemberLinks
pub mod Extensions
pub mod SplitBlocks
pub mod FilledTables
