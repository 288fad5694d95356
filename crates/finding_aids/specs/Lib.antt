pub mod Numbers
pub mod Places
pub mod RowTrees
pub mod Preview
pub mod Slots
