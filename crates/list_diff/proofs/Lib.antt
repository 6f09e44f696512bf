pub mod Common
pub mod Gains
pub mod Searches
pub mod Gaps
pub mod LostSerials
pub mod Differences
pub mod Remainders
pub mod Sizes
