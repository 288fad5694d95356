pub mod Visibility
pub mod Marks
pub mod MarkSteps
pub mod WorkedMarks
