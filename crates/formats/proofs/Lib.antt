pub mod Codes
pub mod LaneLaws
pub mod PackedFormats
pub mod Marked
