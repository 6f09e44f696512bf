pub mod Authority
pub mod Comparable
pub mod Difference
pub mod Fields
