pub mod FirstPlace
pub mod Lookup
pub mod Puts
