pub mod Escapes
pub mod KeyNames
pub mod Logins
pub mod Messages
pub mod Numbers
pub mod Openings
pub mod Spelling
pub mod Words
