pub mod Host
pub mod Losses
pub mod Lists
pub mod Limits
pub mod Files
pub mod Version
pub mod Run
pub mod Superset
