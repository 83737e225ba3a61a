pub mod Order
pub mod TotalOrder
pub mod Laws
