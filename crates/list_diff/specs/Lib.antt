pub mod Without
pub mod Lost
pub mod Ahead
pub mod Gap
