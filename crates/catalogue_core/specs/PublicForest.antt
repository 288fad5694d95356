-- What the public may know of a forest of units on a day.
use Rattle.std.specs.Prelude.{ℕ, ℤ, Bool, Option, Some, None, if◌then◌else◌}
use Rattle.isad_core.specs.Texts.{Bytes}
use Rattle.isad_core.specs.Values.{identifier}
use Rattle.isad_core.specs.declared.values.Values.{Values}
use Rattle.tree_core.specs.Forest.{Forest, each}
use Rattle.visibility.specs.Visibility.{public}
use Rattle.catalogue_core.specs.Units.{Unit, is_unit_closed}

-- A unit as the public knows it: its description or, if it is closed, only its identifier, its level, and the day on
-- which the closure ends. Sources, drafts and past closures are left out.
pub data PublicUnit : Type 0 where
  Told : (id : ℕ) (values : Values) → PublicUnit
  Stub : (id : ℕ) (identifier level : Bytes) (until : ℤ) → PublicUnit

-- the stub of a unit that is closed until a day
abbrev pub stub_of : Unit → Option ℤ → PublicUnit
stub_of unit None = Told unit.id unit.values
stub_of unit (Some until) = Stub unit.id (identifier unit.values) unit.values.level until

abbrev pub public_unit : Unit × Bool → PublicUnit
public_unit (unit, closed) = if closed then stub_of unit unit.until else Told unit.id unit.values

-- the forest without its draft branches, and without what lies below a unit that is closed
abbrev pub public_of : ℤ → Forest Unit → Forest PublicUnit
public_of today f = each public_unit (public (λ unit. unit.draft) (is_unit_closed today) f)
