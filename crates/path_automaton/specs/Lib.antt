pub mod ProductSteps
pub mod MarkRows
pub mod ListedPairs
pub mod Programs
pub mod NewMarks
pub mod Digraphs
