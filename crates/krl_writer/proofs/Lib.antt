mod Common
pub mod Spelling
pub mod Sections
pub mod Meaning
pub mod WrittenNames
pub mod WholeTexts
pub mod Limits
pub mod AuthoritySections
pub mod Sizes
pub mod ReadBack
