pub mod ImageLaws
pub mod Steps
pub mod Taken
pub mod LabelNames
pub mod SetLaws
pub mod Relaxed
pub mod DepthLists
