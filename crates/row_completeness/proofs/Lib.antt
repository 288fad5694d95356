pub mod Common
pub mod FullRows
pub mod KeptRows
pub mod KeptPlaces
pub mod UniqueRows
pub mod Said
pub mod OneForest
