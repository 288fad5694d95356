-- Texts and containers of a unit that are added to their tables.
use Rattle.office_tables.specs.Schema as tables
use Rattle.std.specs.Prelude.{◌≡◌, ℕ, not, nat_eq, true, List, [], ◌∷◌, ◌++◌, filter, map, Option, IsPermutation}
use Rattle.std.specs.List.{AllByRecursion, list_any}
use Rattle.sqlite.specs.Tree.{Trees}
use Rattle.isad_core.specs.Texts.{Bytes}
use Rattle.isad_core.specs.declared.values.BoxKey.{BoxKey}
use Rattle.isad_core.specs.declared.values.Values.{Values}
use Rattle.isad_core.specs.Boxes.{distinct}
use Rattle.office_tables.specs.RowNumbers.{HasNumbered}
use Rattle.catalogue_statements.specs.Rows.{cells_of_unit, ElementRow, element_row, HousingRow, housing_row}
use Rattle.catalogue_statements.specs.Representation.{RepresentsContainers, texts_from, element_number, numbered_texts}
use Rattle.catalogue_statements.specs.Representation.{numbered_containers}
use Rattle.catalogue_core.specs.Units.{Unit, has_id}
pub use Rattle.catalogue_core.specs.Descriptions.{with_boxes}

-- the rows with one more for each of these cells of a unit
pub record WithCells {A C : Type 0} (unit_of : A → ℕ) (cell_of : A → C) (unit : ℕ) (cells : List C) (xs ys : List A) : Type 0 where
  pub more : List A
  pub are : IsPermutation (more ++ xs) ys
  pub tell : IsPermutation cells (map cell_of more)
  pub theirs : AllByRecursion (λ a. unit_of a ≡ unit) more

-- the unit has its row
pub record HasUnit (db : Trees) (unit : ℕ) : Type 0 where
  pub units : List Unit
  pub rows : db tables.unit.tree ≡ map cells_of_unit units
  pub there : list_any (has_id unit) units ≡ true

-- ---- texts

-- the cells of a text, if there is one, by its place among the texts
abbrev pub text_cells : ℕ → Option Bytes → List (ℕ × Bytes)
text_cells place text = map (λ t. (element_number t.0, t.1)) (texts_from place (text ∷ []))

abbrev pub cell_of : ElementRow → ℕ × Bytes
cell_of e = (e.k, e.value)

-- the rows with one more for each of these texts of a unit
abbrev pub WithTexts : ℕ → List (ℕ × Bytes) → List ElementRow → List ElementRow → Type 0
WithTexts = WithCells (λ (e : ElementRow). e.unit) cell_of

-- the table's rows are these
pub record AreElements (db : Trees) (xs : List ElementRow) : Type 0 where
  pub rows : HasNumbered element_row (db tables.element.tree) xs

-- the table has these rows with one more for each of these texts of a unit
abbrev pub AddsTexts : ℕ → List (ℕ × Bytes) → List ElementRow → Trees → Type 0
AddsTexts unit cells xs db = (ys : List ElementRow) × AreElements db ys × WithTexts unit cells xs ys

-- ---- containers

abbrev pub housing_cell : HousingRow → ℕ × ℕ
housing_cell h = (h.ord, h.container)

-- the rows with one more for each of these containers of a unit
abbrev pub WithHousings : ℕ → List (ℕ × ℕ) → List HousingRow → List HousingRow → Type 0
WithHousings = WithCells (λ (h : HousingRow). h.unit) housing_cell

-- the tables have these containers, no two of them alike, and these rows of the units in them
pub record AreHoused (db : Trees) (boxes : List BoxKey) (xs : List HousingRow) : Type 0 where
  pub containers : RepresentsContainers db boxes
  pub apart : distinct boxes ≡ boxes
  pub rows : HasNumbered housing_row (db tables.housing.tree) xs

-- containers, and rows of the units in them
pub record Housings : Type 0 where
  pub boxes : List BoxKey
  pub rows : List HousingRow

-- the tables have these containers, numbered from 1 and no two alike, and these rows
abbrev pub HasHousings : Trees → Housings → Type 0
HasHousings db held = AreHoused db held.boxes held.rows

-- the tables have these containers, and these rows with one more for each of these places of a unit
abbrev pub AddsHousings : ℕ → List BoxKey → List (ℕ × ℕ) → List HousingRow → Trees → Type 0
AddsHousings unit boxes cells xs db = (ys : List HousingRow) × AreHoused db boxes ys × WithHousings unit cells xs ys

-- ---- both

-- the rows of texts, and the containers with the units in them
pub record Descriptions : Type 0 where
  pub elements : List ElementRow
  pub housed : Housings

-- the tables have these
pub record HasDescriptions (db : Trees) (d : Descriptions) : Type 0 where
  pub texts : AreElements db d.elements
  pub housings : HasHousings db d.housed

-- the rows of all units but this one, and all containers
abbrev pub descriptions_of_others : ℕ → Descriptions → Descriptions
descriptions_of_others unit d = record {
  elements = filter (λ x. not (nat_eq unit x.unit)) d.elements;
  housed = record { boxes = d.housed.boxes; rows = filter (λ x. not (nat_eq unit x.unit)) d.housed.rows };
}

-- the tables have these rows with one more for each text and each container of a unit
pub record IsDescribed (unit : ℕ) (values : Values) (boxes : List BoxKey) (xs : List ElementRow) (hs : List HousingRow) (db : Trees) : Type 0 where
  pub elements : List ElementRow
  pub texts : AreElements db elements
  pub texts_more : WithTexts unit (numbered_texts values) xs elements
  pub housings : List HousingRow
  pub housed : AreHoused db (with_boxes boxes values.boxes) housings
  pub housed_more : WithHousings unit (numbered_containers (with_boxes boxes values.boxes) values) hs housings
