-- A finding aid, as it is read and printed unit by unit.
use Rattle.std.specs.Prelude.{◌≡◌, ℕ, ℤ, ◌+◌, Bool, List, [], ◌∷◌, ◌++◌, map, take, find, Some}
use Rattle.std.specs.List.{AllByRecursion, zip}
use Rattle.isad_core.specs.Codes.{code_of}
use Rattle.isad_core.specs.Texts.{Bytes}
use Rattle.isad_core.specs.Values.{identifier, own_lines, title}
use Rattle.isad_core.specs.declared.display.Body.TheVariants.{Full, Closed}
use Rattle.isad_core.specs.declared.display.Shown.{Shown}
use Rattle.isad_core.specs.declared.values.BoxKey.{BoxKey}
use Rattle.tree_core.specs.Forest.{Forest, nodes}
use Rattle.visibility.specs.Visibility.{public}
use Rattle.visibility.specs.declared.marks.Kept.{Kept}
use Rattle.catalogue_core.specs.Aids.{Repository, numbered_boxes, shown_unit}
use Rattle.catalogue_core.specs.CatalogueMerge.{Catalogue, box_number}
use Rattle.catalogue_core.specs.PublicForest.{PublicUnit, Told, Stub, public_unit}
use Rattle.catalogue_core.specs.Units.{Unit, has_id, is_unit_closed}
use Rattle.catalogue_store.specs.declared.unit_values.UnitValues.{UnitValues}
use Rattle.public_queries.specs.declared.visible_unit.Seen.{Seen}

-- ---- what is seen of one unit, wherever it stands

abbrev pub seen_of : List BoxKey → PublicUnit → Seen
seen_of containers (Told id values) = record {
  identifier = identifier values;
  level = values.level;
  title = title values;
  body = Full (own_lines values) (numbered_boxes (box_number containers) values.boxes);
}
seen_of containers (Stub id name level until) = record {
  identifier = name;
  level = level;
  title = [];
  body = Closed until;
}

-- the names of containers, each with its number
abbrev pub with_numbers : List ℕ → List BoxKey → List (ℕ × Bytes)
with_numbers numbers boxes = map (λ (housed : ℕ × BoxKey). (housed.0, housed.1.name)) (zip numbers boxes)

-- the same for the values of a unit, as they are read
abbrev pub seen_values : UnitValues → Seen
seen_values unit = record {
  identifier = identifier unit.values;
  level = unit.values.level;
  title = title unit.values;
  body = Full (own_lines unit.values) (with_numbers unit.containers unit.values.boxes);
}

-- what is printed of a unit at its place: `ids` are the identifiers from the top down to it
abbrev pub shown_at : Repository → List Bytes → ℕ → Seen → Shown
shown_at at ids depth seen = record {
  depth = depth;
  code = code_of at.country at.repo ids;
  level = seen.level;
  title = seen.title;
  body = seen.body;
}

-- ---- the units of an aid in walk order

-- a unit that the public sees, whether it is a stub, and how many units of the aid are above it
abbrev pub Walked : Type 0
Walked = (Unit × Bool) × ℕ

abbrev pub kept_from_walk : Walked → Kept
kept_from_walk row = record { id = row.0.0.id; depth = row.1; stub = row.0.1 }

-- what the public sees of a forest on a day
abbrev pub public_units : ℤ → Forest Unit → Forest (Unit × Bool)
public_units day f = public (λ unit. unit.draft) (is_unit_closed day) f

-- These units, printed one after another. `ids` are the identifiers on the way to the unit before them; the first
-- `base` of these belong to the units above the aid.
abbrev pub along : Repository → List BoxKey → ℕ → List Bytes → List Walked → List Shown
along at containers base ids [] = []
along at containers base ids (row ∷ rows) =
    shown_unit at containers (take (base + row.1) ids ++ identifier row.0.0.values ∷ []) row.1 (public_unit row.0)
    ∷ along at containers base (take (base + row.1) ids ++ identifier row.0.0.values ∷ []) rows

-- ---- which of them can be read

-- the catalogue has the unit under its number, and the unit is a stub if it is closed on that day
pub record IsOf (day : ℤ) (c : Catalogue) (row : Walked) : Type 0 where
  pub found : find (has_id row.0.0.id) (nodes c.forest) ≡ Some row.0.0
  pub stub : row.0.1 ≡ is_unit_closed day row.0.0

-- what was kept of the marks describes these units
pub record KeepsUnits (day : ℤ) (c : Catalogue) (kept : List Kept) (rows : List Walked) : Type 0 where
  pub each : AllByRecursion (IsOf day c) rows
  pub told : kept ≡ map kept_from_walk rows
