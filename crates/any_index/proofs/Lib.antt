pub mod FourBoxes
