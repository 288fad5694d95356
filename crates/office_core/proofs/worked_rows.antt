-- Worked rows, and what they are computed with.
pub mod WorkedAnswers
pub mod WorkedCatalogue
pub mod WorkedChecks
pub mod WorkedDesk
pub mod WorkedImports
pub mod WorkedReplies
pub mod WorkedSettings
pub mod WorkedShown
pub mod WorkedSound
pub mod WorkedTexts
