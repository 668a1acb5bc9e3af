pub mod EdgeOrder
pub mod ListLemmas
pub mod MemberLaws
pub mod LineLemmas
pub mod WalkLemmas
pub mod Uses
pub mod GraphLaws
pub mod Examples
