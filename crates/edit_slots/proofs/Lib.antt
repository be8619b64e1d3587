pub mod SlotsByPlaces
pub mod Worked
