-- What the rows of the catalogue show.
pub mod Rules
pub mod Readings
pub mod Keys
pub mod Offices
pub mod Owned
pub mod Told
pub mod Units
pub mod Shown
