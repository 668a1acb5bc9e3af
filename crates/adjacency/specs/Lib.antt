pub mod Rows
pub mod Targets
