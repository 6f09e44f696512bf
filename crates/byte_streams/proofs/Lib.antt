pub mod Parts
pub mod Pulling
pub mod Buffered
