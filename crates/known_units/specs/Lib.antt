pub mod KnownUnits
pub mod UnitChanges
