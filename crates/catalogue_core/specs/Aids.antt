-- What a finding aid shows of a forest that the public may know (ISAD(G) 2.1 to 2.4: units from the
-- general to the specific, each with what is its own).
use Rattle.std.specs.Prelude.{ℕ, ◌+◌, ◌++◌, List, [], ◌∷◌, map}
use Rattle.isad_core.specs.Texts.{Bytes}
use Rattle.isad_core.specs.Codes.{code_of}
use Rattle.isad_core.specs.Values.{identifier, own_lines, title}
use Rattle.isad_core.specs.declared.values.BoxKey.{BoxKey}
use Rattle.isad_core.specs.declared.values.Values.{Values}
use Rattle.isad_core.specs.declared.display.Shown.{Shown}
use Rattle.isad_core.specs.declared.display.Body.TheVariants.{Full, Closed}
use Rattle.tree_core.specs.Forest.{Forest, Empty, Node}
use Rattle.catalogue_core.specs.CatalogueMerge.{box_number}
use Rattle.catalogue_core.specs.PublicForest.{PublicUnit, Told, Stub}

-- the repository that holds the archives; its codes are the first parts of every reference code
pub record Repository : Type 0 where
  pub country : Bytes
  pub repo : Bytes

abbrev pub identifier_of : PublicUnit → Bytes
identifier_of (Told id values) = identifier values
identifier_of (Stub id name level until) = name

-- the containers of a unit, each with its number
abbrev pub numbered_boxes : (BoxKey → ℕ) → List BoxKey → List (ℕ × Bytes)
numbered_boxes number boxes = map (λ b. (number b, b.name)) boxes

-- how a unit with public values is shown: `ids` are the identifiers from the top down to it, and `number` gives the
-- numbers of containers
abbrev pub shown_told : Repository → (BoxKey → ℕ) → List Bytes → ℕ → Values → Shown
shown_told at number ids depth values = record {
  depth = depth;
  code = code_of at.country at.repo ids;
  level = values.level;
  title = title values;
  body = Full (own_lines values) (numbered_boxes number values.boxes);
}

abbrev pub shown_unit_by : Repository → (BoxKey → ℕ) → List Bytes → ℕ → PublicUnit → Shown
shown_unit_by at number ids depth (Told id values) = shown_told at number ids depth values
shown_unit_by at number ids depth (Stub id name level until) = record {
  depth = depth;
  code = code_of at.country at.repo ids;
  level = level;
  title = [];
  body = Closed until;
}

-- the units of a forest in walk order, below units with these identifiers
abbrev pub shown_by : Repository → (BoxKey → ℕ) → List Bytes → ℕ → Forest PublicUnit → List Shown
shown_by at number above depth Empty = []
shown_by at number above depth (Node unit children others) =
    shown_unit_by at number (above ++ identifier_of unit ∷ []) depth unit
    ∷ (shown_by at number (above ++ identifier_of unit ∷ []) (depth + 1) children
    ++ shown_by at number above depth others)

-- the same, with each container numbered by its place in the list
abbrev pub shown_unit : Repository → List BoxKey → List Bytes → ℕ → PublicUnit → Shown
shown_unit at containers = shown_unit_by at (box_number containers)

abbrev pub shown_below : Repository → List BoxKey → List Bytes → ℕ → Forest PublicUnit → List Shown
shown_below at containers = shown_by at (box_number containers)
