pub mod Telling
pub mod Forms
pub mod Fronts
