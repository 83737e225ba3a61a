pub mod Diffs
pub mod Text
pub mod Places
pub mod Laws
