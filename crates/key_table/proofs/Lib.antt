pub mod DistinctKeys
pub mod RisingSets
