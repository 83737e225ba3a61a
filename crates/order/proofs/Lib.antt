pub mod Orders
pub mod Keys
pub mod TotalOrder
pub mod Laws
