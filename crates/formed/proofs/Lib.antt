pub mod Bytes
pub mod LaneBounds
pub mod Values
pub mod Answered
pub mod CastBack
pub mod AnswerWords
