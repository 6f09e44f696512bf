pub mod StringLists
pub mod Meanings
pub mod Certs
pub mod OptionLists
pub mod Subjects
pub mod TruncatedCertificates
pub mod Sizes
pub mod Layouts
