-- Membership in a list.
pub use Rattle.tree_core.specs.Members.{StandsIn}
