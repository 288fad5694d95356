pub mod Common
pub mod QueueTold
pub mod IssuedTold
pub mod PermitsTold
pub mod CardTold
pub mod SlipTold
pub mod RunTold
