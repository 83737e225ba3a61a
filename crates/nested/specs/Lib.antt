pub mod Nested
pub mod Laws
pub mod Program
