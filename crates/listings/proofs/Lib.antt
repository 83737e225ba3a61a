pub mod Parted
pub mod ListingLines
pub mod Made
pub mod AnswerTexts
pub mod AnswerValues
pub mod PrintedLines
