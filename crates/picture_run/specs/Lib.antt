pub mod Settings
pub mod Words
pub mod SettingsValues
pub mod StatusCodes
pub mod ShownTexts
pub mod DrawnFiles
