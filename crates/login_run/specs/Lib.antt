pub mod Finding
pub mod Log
pub mod Order
pub mod Packed
pub mod Run
pub mod Summary
pub mod Visits
