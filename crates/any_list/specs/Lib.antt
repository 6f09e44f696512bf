pub mod Told
pub mod List
