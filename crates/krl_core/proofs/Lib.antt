mod Common
pub mod StoredEntries
pub mod Bits
pub mod QuietPlaces
pub mod Steps
pub mod BufferedFields
pub mod ListEnds
pub mod GainedEntries
pub mod ContinuedWalks
pub mod WholeLists
pub mod Progress
pub mod Lists
pub mod SkippedBits
pub mod SerialFields
pub mod IntervalBound
pub mod OutOfScopeFields
