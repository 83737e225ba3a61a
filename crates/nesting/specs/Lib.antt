pub mod Grammar
pub mod Read
pub mod Laws
pub mod Program
