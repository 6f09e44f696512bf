pub mod Shallow
pub mod EachReason
pub mod EachLine
pub mod Escapes
pub mod Painted
