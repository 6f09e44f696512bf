pub mod Durations
pub mod ReadNames
pub mod Reading
