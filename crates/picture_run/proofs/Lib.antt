pub mod Numbers
pub mod Bounds
pub mod Drawings
pub mod Examples
