pub mod ChangeLaws
pub mod SoundSteps
pub mod EdgeSteps
pub mod KnownTriples
pub mod AddTriple
pub mod FoundAgain
pub mod LineSteps
pub mod LoadedTriples
pub mod LoadedTexts
pub mod OneOutcome
mod Examples
mod EditedLoads
