pub mod Printed
pub mod Stream
