pub mod Plain
pub mod Queries
pub mod ScriptLines
pub mod ProperScript
pub mod GraphLines
pub mod ProperGraph
pub mod TakenTriples
pub mod MadeFileLoads
