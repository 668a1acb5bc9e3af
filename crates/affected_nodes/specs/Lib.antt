pub mod ReadCosts
pub mod AffectedSearches
