pub mod Refused
pub mod Read
