pub mod Run
pub mod Items
pub mod Printer
pub mod Carries
pub mod Expected
pub mod Done
