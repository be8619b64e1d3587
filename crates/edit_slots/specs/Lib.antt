pub mod SlotsByPlaces
