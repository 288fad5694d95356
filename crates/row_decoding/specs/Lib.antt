pub mod Examinations
pub mod Readings
pub mod PlaceReadings
pub mod TableRows
