pub mod Argument
pub mod Fault
pub mod Value
