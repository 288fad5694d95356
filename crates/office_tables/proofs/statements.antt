-- One kind of statement each, with what it leaves, tells and touches.
pub mod InsertOf
pub mod UpdateOf
pub mod DeleteOf
pub mod SelectOf
pub mod OnlyOf
pub mod LastOf
pub mod CountOf
pub mod WelcomeOf
pub mod LeafOf
