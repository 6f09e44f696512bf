pub mod Facts
pub mod Text
pub mod Changes
pub mod Objects
pub mod Counts
pub mod Forms
