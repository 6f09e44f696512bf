pub mod Amount
pub mod Visible
