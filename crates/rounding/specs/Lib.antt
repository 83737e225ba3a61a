pub mod Rounding
pub mod Lanes
pub mod Neighbours
pub mod Laws
pub mod Program
