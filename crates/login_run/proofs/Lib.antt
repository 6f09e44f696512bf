pub mod Batches
pub mod Lines
pub mod Logs
pub mod Parts
pub mod Running
pub mod Telling
pub mod Visiting
