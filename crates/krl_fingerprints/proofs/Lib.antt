pub mod EntriesBy
pub mod FactEntries
pub mod FineFacts
pub mod PrintedNames
pub mod Printing
