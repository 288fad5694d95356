use Rattle.std.proofs.Common.{◌≡◌, true, take}
use Rattle.known_units.specs.KnownUnits.{KnowsUnits}
use Rattle.access.proofs.Common.{AllByRecursion, Forest, Unit, allows, has_unit, is_clean_for, list_all}
use Rattle.access.proofs.clean_units.are_units_open.Given as goal

abbrev pub invariant-loop-unit : goal.invariant-loop-unit
invariant-loop-unit l = (f : Forest Unit) → KnowsUnits f l.known → AllByRecursion (λ u. has_unit f u ≡ true) l.units
    → list_all (is_clean_for (allows l.today l.permits) l.today f) (take l.unit-index l.units) ≡ true
