pub mod UnitMove
