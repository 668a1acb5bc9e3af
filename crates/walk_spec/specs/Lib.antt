pub mod LeastWalks
pub mod Tests
pub mod Ways
