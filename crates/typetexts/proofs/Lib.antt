pub mod TypeTexts
