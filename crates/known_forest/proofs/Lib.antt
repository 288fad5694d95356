pub mod Common
mod Lists
mod Lookups
mod Located
mod Found
mod Upward
mod Climbs
mod Beside
mod Changed
