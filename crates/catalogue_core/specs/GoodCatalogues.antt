-- When the units and the containers of a catalogue are good.
use Rattle.std.specs.Prelude.{◌≡◌, ℤ, ◌+◌, ◌<◌, ◌≤◌, Bool, true, false, not, List, length, map, Option, Some, None}
use Rattle.std.specs.Prelude.{nat_eq}
use Rattle.std.specs.List.{list_any, list_all, AllByRecursion, IsDistinct}
use Rattle.isad_core.specs.Texts.{Bytes, is_blank_text}
use Rattle.isad_core.specs.Days.{IsDayNumber}
use Rattle.isad_core.specs.declared.values.BoxKey.{BoxKey}
use Rattle.isad_core.specs.Boxes.{distinct, is_same_box}
use Rattle.tree_core.specs.Forest.{nodes, size}
use Rattle.catalogue_core.specs.Units.{Unit, is_from}
use Rattle.catalogue_core.specs.CatalogueMerge.{Catalogue}
use Rattle.isad_core.specs.Limits.{most_bytes, most_units, most_unit_numbers, most_containers, most_deep}
use Rattle.catalogue_core.specs.Sources.{is_source}
use Rattle.catalogue_core.specs.Moves.{height}

-- ---- days: each that is kept is one of the calendar, from 1900-01-01 to 9999-12-31

abbrev pub IsSomeDay : Option ℤ → Type 0
IsSomeDay None = Prim.Unit {0}
IsSomeDay (Some day) = IsDayNumber day

-- ---- units

-- a text of an element, if there is one, is not blank
abbrev pub is_good_text : Option Bytes → Bool
is_good_text None = true
is_good_text (Some text) = not (is_blank_text text)

-- a unit of an office with these containers
pub record IsGoodUnit (boxes : List BoxKey) (unit : Unit) : Type 0 where
  pub source : is_source unit.source ≡ true
  pub legacy : is_blank_text unit.legacy ≡ false
  pub legacy_short : length unit.legacy ≤ most_bytes
  pub level_short : length unit.values.level ≤ most_bytes
  pub texts : list_all is_good_text unit.values.texts ≡ true
  pub texts_count : length unit.values.texts ≡ 25
  pub known : list_all (λ box. list_any (is_same_box box) boxes) unit.values.boxes ≡ true
  pub apart : distinct unit.values.boxes ≡ unit.values.boxes

-- the same number in the same source
abbrev pub is_same_unit : Unit → Unit → Bool
is_same_unit a b = is_from a.source a.legacy b

pub record AreGoodUnits (c : Catalogue) : Type 0 where
  pub each : AllByRecursion (IsGoodUnit c.containers) (nodes c.forest)
  pub ids : IsDistinct nat_eq (map (λ (unit : Unit). unit.id) (nodes c.forest))
  pub pairs : IsDistinct is_same_unit (nodes c.forest)
  -- each has a number that was given
  pub given : AllByRecursion (λ (unit : Unit). (1 ≤ unit.id) × (unit.id < c.next)) (nodes c.forest)
  pub next : (1 ≤ c.next) × (c.next ≤ most_unit_numbers + 1)
  pub few : size c.forest ≤ most_units
  pub depth : height c.forest ≤ most_deep

-- ---- containers

-- that no two containers are the same is stated with the soundness of the desk
pub record AreGoodContainers (c : Catalogue) : Type 0 where
  pub named : list_all (λ box. not (is_blank_text box.name)) c.containers ≡ true
  pub few : length c.containers ≤ most_containers
