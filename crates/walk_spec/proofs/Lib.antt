pub mod Examples
pub mod LeastWalks
pub mod ShownAnswers
pub mod ShownTests
pub mod WayLaws
