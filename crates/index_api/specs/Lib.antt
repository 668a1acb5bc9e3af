pub mod IndexOrder
pub mod Spelling
pub mod Meanings
pub mod IndexKinds
