pub mod NoFlag
pub mod Levels
pub mod Marks
pub mod Seeds
pub mod Usages
pub mod ClapWords
pub mod Examples
