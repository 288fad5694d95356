pub mod DeskRows
pub mod KeptDesk
pub mod ShownDesk
pub mod Again
pub mod DeskTables
