pub mod Digits
pub mod Steps
pub mod Fields
pub mod Magnitudes
pub mod TruncatedFields
pub mod RowLaws
