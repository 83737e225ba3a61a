pub mod Bools
pub mod Checked
pub mod Every
pub mod Few
pub mod Formed
pub mod Lanes
pub mod Places
pub mod Tested
