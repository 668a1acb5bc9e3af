pub mod Items
pub mod Slots
pub mod HashChains
