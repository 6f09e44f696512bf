pub mod Lists
pub mod Showing
pub mod Run
pub mod Changes
pub mod ChangeLines
pub mod Comparison
pub mod SameLists
