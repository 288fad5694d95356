pub mod Openness
pub mod Gate
pub mod DayRules
pub mod ReadersMarks
