pub mod NamePlaces
pub mod NameSlots
