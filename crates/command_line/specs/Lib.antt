pub mod Forms
pub mod Arguments
pub mod SimpleCommands
pub mod Words
pub mod Usage
pub mod FormValues
