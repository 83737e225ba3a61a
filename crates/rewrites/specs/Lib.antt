pub mod Equality
pub mod Rewrites
