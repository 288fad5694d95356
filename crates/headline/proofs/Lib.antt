pub mod Common
pub mod Rows
pub mod Runs
