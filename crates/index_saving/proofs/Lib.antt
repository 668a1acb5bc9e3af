pub mod KeptOne
pub mod SavedFileLaws
