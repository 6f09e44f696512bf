pub mod Loading
pub mod Sizes
