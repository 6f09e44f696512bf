pub mod Options
pub mod Duration
pub mod Number
pub mod Inputs
pub mod Misuse
pub mod Making
pub mod Task
pub mod Command
