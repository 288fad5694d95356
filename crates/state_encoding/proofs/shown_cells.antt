-- The cells of a sound office, as they are read.
pub mod ReadCells
pub mod KeyOrder
pub mod LegibleTables
pub mod OtherOrders
pub mod OtherRows
pub mod ReadPlaces
pub mod ShownCells
pub mod TreesOfOffices
