pub mod Exponent
pub mod Leads
pub mod Splits
