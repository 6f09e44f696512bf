pub mod Names
pub mod Wire
pub mod Numbers
pub mod Keys
pub mod FirstFaults
pub mod TruncatedBlobs
pub mod Sizes
pub mod Layouts
