pub mod TripleGraphs
pub mod TermNodes
pub mod Loads
pub mod Hashed
pub mod Refused
pub mod Loaders
pub mod LoadSteps
pub mod TextFiles
