pub mod JsonValues
