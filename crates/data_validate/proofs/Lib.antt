pub mod RisingTests
pub mod NotedNodes
pub mod BackwardRounds
pub mod BackwardWalks
