pub mod Linked
pub mod ChainWalks
