pub mod FirstDigits
pub mod Cases
pub mod Times
pub mod RoundsOnce
pub mod SplitExact
pub mod SplitAlone
pub mod Rejoined
pub mod Bounds
