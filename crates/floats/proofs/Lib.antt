pub mod Nan
pub mod Order
pub mod Sums
