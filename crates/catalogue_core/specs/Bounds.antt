-- The limits of an office, as far as they matter for what its tables can store and give back.
use Rattle.std.specs.Prelude.{◌≡◌, ℕ, ◌<◌, ◌≤◌, ◌^◌, true, nat_eq, length, IfSome, IsUtf8}
use Rattle.std.specs.List.{AllByRecursion}
use Rattle.isad_core.specs.Days.{is_day_number}
use Rattle.isad_core.specs.Limits.{most_units, most_deep, IsNumber}
use Rattle.tree_core.specs.Forest.{Forest, nodes, each, path, size}
use Rattle.isad_core.specs.LegibleValues.{IsLegibleBox}
use Rattle.catalogue_core.specs.CatalogueMerge.{Catalogue}
use Rattle.catalogue_core.specs.Units.{Unit}

-- An office has no more units than the limit, no deeper than the limit, with numbers that a table can store.
pub record IsBounded (f : Forest ℕ) : Type 0 where
  pub few : size f ≤ most_units
  pub low : AllByRecursion IsNumber (nodes f)
  pub shallow : (id : ℕ) → length (path (nat_eq id) f) ≤ most_deep

-- the unit's texts are UTF-8, and its closure ends on a day of the calendar
pub record IsLegibleUnit (u : Unit) : Type 0 where
  pub level : IsUtf8 u.values.level
  pub texts : AllByRecursion (λ text. IfSome text IsUtf8) u.values.texts
  pub until : IfSome u.until (λ day. is_day_number day ≡ true)

-- a catalogue within these limits
pub record IsKept (c : Catalogue) : Type 0 where
  pub places : IsBounded (each (λ (u : Unit). u.id) c.forest)
  pub units : AllByRecursion IsLegibleUnit (nodes c.forest)
  pub boxes : AllByRecursion IsLegibleBox c.containers
  pub few_boxes : length c.containers < 2 ^ 62
