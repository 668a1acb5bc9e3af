pub mod LastLabels
