-- When the tables represent a catalogue: each table has the rows that its part of the catalogue names, and no others.
use Rattle.office_tables.specs.Schema as tables
use Rattle.std.specs.Prelude.{◌≡◌, ℕ, zero, suc, ◌+◌, nat_eq, true, List, [], ◌∷◌, map, filter, Option, Some, None}
use Rattle.std.specs.Prelude.{IsPermutation}
use Rattle.std.specs.List.{AllByRecursion}
use Rattle.std.proofs.Common.{◌∙◌}
use Rattle.sqlite.specs.Effect.{Database}
use Rattle.sqlite.specs.Tree.{Trees}
use Rattle.isad_core.specs.Texts.{Bytes}
use Rattle.isad_core.specs.declared.values.BoxKey.{BoxKey}
use Rattle.isad_core.specs.declared.values.Values.{Values}
use Rattle.tree_core.specs.Forest.{Forest, nodes, has, each}
use Rattle.tree_core.specs.Links.{RepresentsLinks}
use Rattle.tree_core.specs.declared.rows.Link.{Link}
use Rattle.office_tables.specs.Versions.{Version}
use Rattle.office_tables.specs.Schema.{schema}
use Rattle.office_tables.specs.Schema as tables
use Rattle.catalogue_core.specs.Units.{Unit, has_id}
use Rattle.catalogue_core.specs.CatalogueMerge.{Catalogue, box_number}
use Rattle.office_tables.specs.RowNumbers.{HasNumbered}
use Rattle.office_tables.specs.Order.{Rises}
use Rattle.catalogue_statements.specs.Rows.{office_row, cells_of_unit, by_number, ElementRow, element_row}
use Rattle.catalogue_statements.specs.Rows.{numbered_container_cells, counted_from, HousingRow, housing_row, link_row}
use Rattle.catalogue_statements.specs.Rows.{by_id}
use Rattle.catalogue_statements.specs.declared.office.OfficeRow.{OfficeRow}

-- one row contains the settings, the day and the next unit number
abbrev pub RepresentsOffice : Version → Trees → OfficeRow → Type 0
RepresentsOffice version db office = db tables.office.tree ≡ office_row version office ∷ []

-- a row for each unit, in order of the numbers
pub record RepresentsUnits (db : Trees) (f : Forest Unit) : Type 0 where
  pub units : List Unit
  pub rows : db tables.unit.tree ≡ map cells_of_unit units
  pub rise : Rises by_number units
  pub are : IsPermutation (nodes f) units

-- the texts that are present, each with its place, if the first of them all has the place k
abbrev pub texts_from : ℕ → List (Option Bytes) → List (ℕ × Bytes)
texts_from k [] = []
texts_from k (None ∷ texts) = texts_from (k + 1) texts
texts_from k (Some text ∷ texts) = (k, text) ∷ texts_from (k + 1) texts

-- the number of an element by its place among the texts, from 0; the texts leave out the fourth element, the level
abbrev pub element_number : ℕ → ℕ
element_number zero = 1
element_number (suc zero) = 2
element_number (suc (suc zero)) = 3
element_number (suc (suc (suc i))) = i + 5

-- the elements of a description other than the level, each as its number and its text
abbrev pub numbered_texts : Values → List (ℕ × Bytes)
numbered_texts values = map (λ text. (element_number text.0, text.1)) (texts_from 0 values.texts)

-- the numbers and the texts in the rows of a unit
abbrev pub elements_of : ℕ → List ElementRow → List (ℕ × Bytes)
elements_of u elements = map (λ e. (e.k, e.value)) (filter (λ e. nat_eq u e.unit) elements)

-- a row for each text of each unit
pub record RepresentsElements (db : Trees) (f : Forest Unit) : Type 0 where
  pub elements : List ElementRow
  pub rows : HasNumbered element_row (db tables.element.tree) elements
  pub are : AllByRecursion (λ u. IsPermutation (numbered_texts u.values) (elements_of u.id elements)) (nodes f)
  pub others : AllByRecursion (λ e. has (has_id e.unit) f ≡ true) elements

-- a row for each container, numbered from 1
abbrev pub RepresentsContainers : Trees → List BoxKey → Type 0
RepresentsContainers db containers = db tables.container.tree ≡ map numbered_container_cells (counted_from 1 containers)

-- the containers of a description in its order, each as its place, from 1, and its number
abbrev pub numbered_containers : List BoxKey → Values → List (ℕ × ℕ)
numbered_containers containers values = map (λ box. (box.0, box_number containers box.1)) (counted_from 1 values.boxes)

-- the places and the containers' numbers in the rows of a unit
abbrev pub housing_places : ℕ → List HousingRow → List (ℕ × ℕ)
housing_places u housings = map (λ h. (h.ord, h.container)) (filter (λ h. nat_eq u h.unit) housings)

-- a row for each container of each unit, at its place in the unit's order from 1
pub record RepresentsHousings (db : Trees) (f : Forest Unit) (containers : List BoxKey) : Type 0 where
  pub housings : List HousingRow
  pub rows : HasNumbered housing_row (db tables.housing.tree) housings
  pub are : AllByRecursion (λ u. IsPermutation (numbered_containers containers u.values) (housing_places u.id housings)) (nodes f)
  pub others : AllByRecursion (λ h. has (has_id h.unit) f ≡ true) housings

-- the link rows represent a forest of unit numbers
pub record RepresentsLinkRows (db : Trees) (f : Forest ℕ) : Type 0 where
  pub links : List Link
  pub rows : db tables.link.tree ≡ map link_row links
  pub rise : Rises by_id links
  pub are : RepresentsLinks f links

-- it depends on no other table
pub same_link_rows : (old new : Trees) (f : Forest ℕ) → new tables.link.tree ≡ old tables.link.tree → RepresentsLinkRows old f → RepresentsLinkRows new f
same_link_rows old new f same it = record { links = it.links; rows = same ∙ it.rows; rise = it.rise; are = it.are }

-- the catalogue's tables, except the places
pub record RepresentsCatalogue (version : Version) (db : Database) (o : OfficeRow) (c : Catalogue) : Type 0 where
  pub schema_is : db.schema ≡ schema version
  pub office : RepresentsOffice version db.trees o
  pub next : o.next_unit ≡ c.next
  pub units : RepresentsUnits db.trees c.forest
  pub elements : RepresentsElements db.trees c.forest
  pub containers : RepresentsContainers db.trees c.containers
  pub housings : RepresentsHousings db.trees c.forest c.containers

-- all of the catalogue's tables; `places` says which rows represent the places
pub record Represents (places : Trees → Forest ℕ → Type 0) (version : Version) (db : Database) (o : OfficeRow) (c : Catalogue) : Type 0 where
  pub catalogue : RepresentsCatalogue version db o c
  pub shown : places db.trees (each (λ (u : Unit). u.id) c.forest)

-- the same as a property of the settings, for a given catalogue
abbrev pub RepresentsSettings : (Trees → Forest ℕ → Type 0) → Version → Database → Catalogue → OfficeRow → Type 0
RepresentsSettings places version db c o = Represents places version db o c

-- the same, with the next unit number taken from the catalogue: a call may change it, and all other settings stay
abbrev pub RepresentsNumbered : (Trees → Forest ℕ → Type 0) → Version → Database → OfficeRow → Catalogue → Type 0
RepresentsNumbered places version db o c = Represents places version db (record o { next_unit = c.next }) c

-- ---- the trees of the catalogue's tables

-- of the tables of units and containers
abbrev pub described_trees : List ℕ
described_trees = tables.unit.tree ∷ tables.element.tree ∷ tables.container.tree ∷ tables.housing.tree ∷ []

-- of all tables, with the office's row and the places
abbrev pub catalogue_trees : List ℕ
catalogue_trees = tables.office.tree ∷ tables.link.tree ∷ described_trees
