pub mod Types
pub mod Hex
pub mod Read
pub mod Write
