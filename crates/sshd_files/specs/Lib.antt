pub mod Files
pub mod Pattern
pub mod Settings
pub mod Users
pub mod Words
