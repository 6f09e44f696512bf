pub mod TextsAdded
pub mod TextsIndexed
pub mod MadeLists
pub mod Contents
pub mod Updated
pub mod Bases
pub mod Aheads
