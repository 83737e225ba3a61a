pub mod Format
pub mod Convert
pub mod Nearest
pub mod Program
