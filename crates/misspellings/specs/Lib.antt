pub mod Misspellings
pub mod Laws
