pub mod Table
pub mod Refuse
pub mod Words
pub mod Program
