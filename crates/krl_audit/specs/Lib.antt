pub mod Audit
pub mod Counts
pub mod Done
pub mod Scan
pub mod Tally
