pub mod Version
pub mod Target
pub mod Making
