pub mod AffectedLevels
pub mod AffectedWeights
pub mod LowestLevel
pub mod SupportedKeys
pub mod EdgeLevels
pub mod LoneNodes
