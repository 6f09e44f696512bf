mod Common
pub mod Elements
pub mod Equivalences
pub mod SameNames
