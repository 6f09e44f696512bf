mod Common
pub mod DistinctLists
pub mod AuthorityItems
pub mod Serials
pub mod RunStarts
pub mod SerialCounts
pub mod TopicAdditions
pub mod TopicAmounts
pub mod KeyHashes
pub mod QuestionAnswers
mod AskedItems
pub mod FoundReasons
pub mod AddedFindings
pub mod FirstSerials
pub mod SkippedSerials
pub mod MoreQuestions
mod AskedNames
