pub mod Walk
pub mod Refusals
pub mod FirstLine
pub mod AllParts
pub mod FirstTold
