pub mod Marked
mod Changed
