pub mod Materials
pub mod Words
pub mod Laws
