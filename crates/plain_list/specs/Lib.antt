pub mod Line
pub mod Key
pub mod List
pub mod Spelled
pub mod Any
pub mod Dsa
