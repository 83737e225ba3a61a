pub mod Index
pub mod Sorting
pub mod Printed
pub mod Starts
