pub mod OrderedRows
pub mod WholeRows
pub mod WholePlaces
