mod Common
pub mod WrittenTexts
pub mod OneAnswer
pub mod PrintedWords
pub mod AnswerMeaning
pub mod ReasonBits
pub mod OnePlainAnswer
pub mod ListFaults
pub mod SubjectFaults
pub mod AnswerNumbers
pub mod ShortWords
pub mod ReasonAnswers
