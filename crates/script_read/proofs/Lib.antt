pub mod WordLemmas
pub mod NodeLists
pub mod CommandLemmas
pub mod CommandLaws
pub mod Examples
