pub mod AnswerableKeys
pub mod AnsweredFiles
pub mod RunParts
pub mod RunEnds
pub mod Items
pub mod PrintedItems
