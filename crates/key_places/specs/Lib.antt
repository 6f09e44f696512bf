pub mod Blob
pub mod Name
pub mod Place
pub mod Reading
pub mod Word
