pub mod ValueTexts
pub mod Told
