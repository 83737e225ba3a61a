pub mod OneIndex
pub mod LineOrder
pub mod Places
pub mod Moves
pub mod Numbered
pub mod Room
pub mod Refusals
pub mod Printing
