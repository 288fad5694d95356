-- A new unit, as it is passed to a call.
use Rattle.std.specs.Prelude.{None}
use Rattle.catalogue_core.specs.Units.{Unit}
use Rattle.catalogue_statements.specs.declared.units.NewUnit.{NewUnit}

abbrev pub unit_of : NewUnit → Unit
unit_of new = record { id = new.id; source = new.source.now; legacy = new.legacy.now; values = new.values.now; draft = new.draft; until = None }
