pub mod Device
pub mod Pull
pub mod Filling
