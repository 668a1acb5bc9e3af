pub mod Lists
pub mod Numbered
pub mod AddedKeys
pub mod DraftedKeys
pub mod SettledKeys
pub mod Grown
pub mod Compacted
