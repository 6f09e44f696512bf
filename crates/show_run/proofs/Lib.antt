pub mod Common
pub mod Showing
pub mod Reading
pub mod Ending
pub mod OneText
pub mod TwoReadings
pub mod OneDifference
pub mod SameLists
