-- Units that are entered separately from their places.
use Rattle.std.specs.Prelude.{ℕ, Option}
use Rattle.catalogue_core.specs.Descriptions.{with_unit}
use Rattle.catalogue_core.specs.CatalogueMerge.{Catalogue}
use Rattle.catalogue_core.specs.Units.{Unit}

-- a new unit as the last below its parent, or as the last top; the next unit number stays as it is
abbrev pub with_entered : Option ℕ → Unit → Catalogue → Catalogue
with_entered parent unit c = record (with_unit parent unit c) { next = c.next }
