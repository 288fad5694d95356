-- Rows that have numbers.
pub mod Counted
pub mod PutAgain
pub mod OwnNumbers
