pub mod OneView
pub mod Staged
