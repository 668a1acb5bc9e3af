mod MetChildren
mod Distances
pub mod SearchCosts
mod ReachRounds
