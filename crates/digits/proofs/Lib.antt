pub mod LaneTexts
pub mod Numbers
