-- Changes of a unit that leave where units stand.
use Rattle.std.specs.Prelude.{ℕ}
use Rattle.catalogue_core.specs.CatalogueMerge.{Catalogue}
use Rattle.catalogue_core.specs.Statuses.{chosen, with_closure, with_status}
use Rattle.known_units.specs.declared.changes.UnitChange.{UnitChange}
use Rattle.known_units.specs.declared.changes.UnitChange.TheVariants as change

-- the catalogue after a change of this unit
abbrev pub changed_by : UnitChange → ℕ → Catalogue → Catalogue
changed_by (change.Status draft whole) unit c = with_status (chosen whole unit c) draft c
changed_by (change.Closure until) unit c = with_closure unit until c
