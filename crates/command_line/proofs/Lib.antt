pub mod Common
pub mod Bounded
pub mod Needs
pub mod Rows
