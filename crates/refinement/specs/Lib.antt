pub mod Representation
pub mod CommandSteps
pub mod QueryAnswers
pub mod ReadingRoomLimits
pub mod Sitters
pub mod AccessConditions
