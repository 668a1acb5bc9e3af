pub mod ListedIndexes
