mod Common
pub mod Judgements
pub mod Fronts
pub mod Walks
pub mod LongestFronts
pub mod PlaceRows
pub mod TableRows
pub mod TableWalks
pub mod RestSpellings
pub mod SpelledSections
pub mod SpelledSubsections
pub mod SpelledFields
pub mod SpelledLists
pub mod Fields
pub mod Bitmaps
pub mod OneSpelling
pub mod TruncatedLists
pub mod FirstFields
pub mod PassingBits
pub mod Lists
mod Layouts
