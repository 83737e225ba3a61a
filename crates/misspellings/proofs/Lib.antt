pub mod Arguments
pub mod FirstFaulty
pub mod BeforeFault
pub mod MostPlaces
