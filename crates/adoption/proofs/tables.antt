pub mod RowsStored
pub mod UniqueRows
pub mod PairsInOrder
pub mod Causeless
pub mod JudgedTables
pub mod ShownTables
