pub mod Tables
pub mod Sets
