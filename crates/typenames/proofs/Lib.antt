pub mod TypeTexts
pub mod BeforeColon
