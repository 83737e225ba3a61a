pub mod Ranking
pub mod Refusal
