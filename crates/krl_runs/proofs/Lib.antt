mod Common
pub mod AgreeingTests
pub mod QueryRuns
pub mod ExpectedKeys
pub mod OneReading
pub mod PrintedContents
pub mod Bounds
