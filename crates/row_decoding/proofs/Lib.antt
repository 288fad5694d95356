pub mod Common
pub mod TableReads
pub mod TableTexts
pub mod ReadCalls
pub mod GatheredRows
pub mod Alike
pub mod ToldCells
