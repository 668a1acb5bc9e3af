pub mod Examples
pub mod ListLaws
pub mod ParentLaws
pub mod FirstLaws
pub mod LoneLaws
pub mod NameLaws
pub mod DrawnTexts
pub mod PictureLines
