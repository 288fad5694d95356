-- Catalogues whose texts are all UTF-8.
use Rattle.std.specs.Prelude.{IsUtf8}
use Rattle.std.specs.List.{AllByRecursion}
use Rattle.isad_core.specs.LegibleValues.{IsLegibleBox, AreLegibleValues}
use Rattle.tree_core.specs.Forest.{nodes}
use Rattle.catalogue_core.specs.Units.{Unit}
use Rattle.catalogue_core.specs.CatalogueMerge.{Catalogue}

-- where a unit came from, its number there, and its description
pub record HasLegibleTexts (unit : Unit) : Type 0 where
  pub source : IsUtf8 unit.source
  pub legacy : IsUtf8 unit.legacy
  pub values : AreLegibleValues unit.values

pub record IsLegibleCatalogue (c : Catalogue) : Type 0 where
  pub units : AllByRecursion HasLegibleTexts (nodes c.forest)
  pub containers : AllByRecursion IsLegibleBox c.containers
