pub mod Steps
pub mod KeyFiles
pub mod Formats
pub mod Judging
pub mod Ending
pub mod Losing
pub mod Passing
pub mod PassedRuns
