pub mod Transposing
