pub mod ReadLines
pub mod Said
pub mod KeyLines
pub mod NamedKeys
pub mod OneOff
pub mod LastDays
pub mod KeyNames
pub mod DaySearch
