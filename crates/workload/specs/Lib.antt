pub mod Generator
pub mod MadeTexts
pub mod GeneratorValues
