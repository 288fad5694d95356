pub mod SparedCatalogue
pub mod Seats
pub mod OrderPlacement
pub mod Permits
pub mod ContainerMoves
pub mod Issuance
pub mod RunCreation
