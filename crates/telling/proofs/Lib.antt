pub mod Parts
pub mod KindTexts
