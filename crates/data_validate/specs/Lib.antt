pub mod Ancestors
pub mod Checks
