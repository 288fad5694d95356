-- What rows tell of a catalogue.
pub mod ToldCatalogue
pub mod ToldContainers
pub mod ToldElements
pub mod ToldHousings
pub mod ToldPlaces
pub mod ToldUnits
