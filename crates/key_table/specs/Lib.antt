pub mod Hashes
pub mod Spans
pub mod NumberedKeys
