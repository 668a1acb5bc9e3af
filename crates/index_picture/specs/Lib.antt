pub mod QuotedTexts
pub mod ShownNames
pub mod DrawnBlocks
pub mod MetBlocks
pub mod LoneBlocks
pub mod NamedTerms
pub mod Pictures
pub mod PictureLaws
