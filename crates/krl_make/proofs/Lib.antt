pub mod LineBytes
pub mod MadeLists
pub mod FirstKeys
pub mod OverLists
