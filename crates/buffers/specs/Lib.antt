pub mod Text
pub mod Memory
