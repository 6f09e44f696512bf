pub mod Fronts
pub mod Postings
pub mod Places
pub mod NameIndex
pub mod NamingLines
pub mod Indexing
pub mod Explaining
pub mod Found
