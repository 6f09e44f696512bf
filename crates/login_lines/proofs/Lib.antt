pub mod Digits
pub mod EscapeLaws
pub mod LineLaws
pub mod LoginLaws
pub mod OpeningLaws
pub mod Parts
pub mod Prints
pub mod TagLaws
