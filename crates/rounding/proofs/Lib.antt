pub mod Fours
pub mod Ways
pub mod Results
pub mod Digits
pub mod Nearby
pub mod Subtraction
pub mod Laws
