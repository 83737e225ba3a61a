pub mod Misspelt
pub mod Written
