pub mod Making
pub mod FirstKey
pub mod Over
