pub mod Lanes
pub mod LaneKinds
pub mod AnswerKinds
pub mod Laws
