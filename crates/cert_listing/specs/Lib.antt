pub mod Time
pub mod Listing
