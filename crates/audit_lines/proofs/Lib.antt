pub mod Surveying
pub mod KeylessFiles
pub mod Spelled
