pub mod Cut
pub mod Buffer
pub mod Sizes
