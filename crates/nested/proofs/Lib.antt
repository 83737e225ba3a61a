pub mod Folds
pub mod Three
pub mod Sounds
pub mod SpellOut
