pub mod KeyedQuotients
pub mod Changes
pub mod Numberings
pub mod CarriedKeys
